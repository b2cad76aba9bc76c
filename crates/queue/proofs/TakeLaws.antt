-- Entries are taken off the top up to the first current one: what holds before each turn, and what a turn does.
-- Assumes nothing.
use Prim.Native.Nat.{ℕ, ◌+◌, ◌-◌}
use native.Mathlib.Nat.{le_refl}
use native.Mathlib.Omega.{arith}
use mathlib.Core.Path.{◌≡◌, refl, sym, ap, subst, ◌∙◌}
use mathlib.Core.List.{List, [], ◌∷◌, ◌++◌}
use mathlib.Core.Bool.{Bool, true, false, not, ◌&&◌, ◌||◌}
use mathlib.Mathlib.Data.Bool.Basic.{and_elim_left, and_intro, or_inl, or_inr}
use lib.Dec.{leb, ltb}
use lib.ListN.{length}
use lib.Ieee.{Float}
use borrow.Author.Tests.{le-leb, lt-ltb, ltb-true, not-false}
use Rattle.walk.specs.declared.Pair.{Pair}
use Rattle.lists.specs.Lists.{sum, every}
use Rattle.lists.proofs.SumLaws.{sum-append, sum-length}
use Rattle.lists.proofs.BagLaws.{bag-refl, bag-every}
use Rattle.lists.proofs.EveryLaws.{every_append, every-cons, every-tail, every-both, every-implies}
use Rattle.lists.proofs.TestLaws.{both_true}
use Rattle.lists.proofs.PartLaws.{every_two}
use Rattle.memory.specs.declared.entries.Entry.{Entry}
use Rattle.memory.specs.Entries.{entry_in}
use Rattle.memory.proofs.EntryLaws.{only-refl, only_then}
use Rattle.queue.specs.State.{open_in}
use Rattle.queue.specs.Stored.{stamps_of, entries_in, is_old, entry_rank}
use Rattle.queue.specs.Clauses.Queued.{Queue, Named, QueueNamed, is_present}
use Rattle.queue.specs.Clauses.Changes.{Was, Fewer, Popped, TakenOff, NoneLeft}
use Rattle.queue.proofs.PresentLaws.{present-old, present-only, entries-every, weighed, open-sum, fewer-open, old-weigh}

-- ---- some are queued no more

pub fewer-none : {v f : ℕ} {w : List ℕ} {p q : List Float} {n : ℕ} → Queue v f w p q n → Fewer v f w p q n [] w p q n
fewer-none {v} {f} {w} {p} {q} queue = record { only = only-refl v f w p q; queue = queue; bag = bag-refl; were = λ i l. (i, l, refl) }

-- what was there once some were gone was there
pub was-before : {v f : ℕ} {w : List ℕ} {p q : List Float} {n : ℕ} {gone : List Entry} {w' : List ℕ} {p' q' : List Float} {n' : ℕ} {e : Entry} →
    Fewer v f w p q n gone w' p' q' n' → Was v f w' p' q' n' e → Was v f w p q n e
was-before fewer was =
    let (j, l, same) = was in
    let (k, m, there) = fewer.were j l in
    (k, m, same ∙ there)

pub fewer-then : {v f : ℕ} {w : List ℕ} {p q : List Float} {n : ℕ} {gone : List Entry} {w' : List ℕ} {p' q' : List Float} {n' : ℕ} {more : List Entry} {w'' : List ℕ}
    {p'' q'' : List Float} {n'' : ℕ} → Fewer v f w p q n gone w' p' q' n' → Fewer v f w' p' q' n' more w'' p'' q'' n'' → Fewer v f w p q n (more ++ gone) w'' p'' q'' n''
fewer-then {v} {f} {gone = gone} {w' = w'} {p'} {q'} {n'} {more} {w''} {p''} {q''} {n''} one two = record {
  only = only_then one.only two.only;
  queue = two.queue;
  bag = record {
    sums = λ g.
        omega (
          arith,
          one.bag.sums g,
          sum-append g gone (entries_in v f w' p' q' n'),
          two.bag.sums g,
          sum-append g more (entries_in v f w'' p'' q'' n''),
          sum-append g (more ++ gone) (entries_in v f w'' p'' q'' n''),
          sum-append g more gone,
        );
  };
  were = λ i l. was-before one (two.were i l);
}

-- ---- the turns

-- Of the n entries that stood in w₀ left are queued, and the others were passed over: they were old.
pub record Taking (v f : ℕ) (w₀ : List ℕ) (p₀ q₀ : List Float) (n : ℕ) (w : List ℕ) (p q : List Float) (left : ℕ) : Type 0 where
  pub passed : List Entry
  pub fewer : Fewer v f w₀ p₀ q₀ n passed w p q left
  pub old : every (is_old (stamps_of v f w₀)) passed ≡ true

pub taking-start : {v f : ℕ} {w : List ℕ} {p q : List Float} {n : ℕ} → Queue v f w p q n → Taking v f w p q n w p q n
unfolding every
taking-start queue = record { passed = []; fewer = fewer-none queue; old = refl }

-- none is left
pub taking-none : {v f : ℕ} {w₀ : List ℕ} {p₀ q₀ : List Float} {n : ℕ} {w : List ℕ} {p q : List Float} {left : ℕ} → left ≡ 0 → Taking v f w₀ p₀ q₀ n w p q left →
    NoneLeft v f w₀ p₀ q₀ n w p q
taking-none {v} {f} {w₀} {p₀} {q₀} {n} {w} {p} {q} {left} none end =
    let last : Taking v f w₀ p₀ q₀ n w p q 0 = subst (λ (k : ℕ). Taking v f w₀ p₀ q₀ n w p q k) none end in
    let test : Entry → Bool = is_old (stamps_of v f w₀) in
    record {
      only = last.fewer.only;
      queue = last.fewer.queue;
      old = bag-every last.fewer.bag test ∙ every-both test last.passed (entries_in v f w p q 0) last.old (entries-every v f w p q 0 test (λ i l. absurd (omega arith)));
    }

module _ {v f : ℕ} {w₀ : List ℕ} {p₀ q₀ : List Float} {n : ℕ} {w : List ℕ} {p q : List Float} {left : ℕ} {w' : List ℕ} {p' q' : List Float} {top : Entry}
    (named : QueueNamed v f w₀ p₀ q₀ n) (before : Taking v f w₀ p₀ q₀ n w p q left) (popped : Popped v f w p q left w' p' q' top) where
  popped-was : Was v f w₀ p₀ q₀ n top
  popped-was = was-before before.fewer popped.was

  pub popped-named : Named v top
  popped-named =
      let (j, l, same) = popped-was in
      subst (λ (e : Entry). Named v e) (sym same) (named j l)

  popped-fewer : Fewer v f w₀ p₀ q₀ n (top ∷ before.passed) w' p' q' (left - 1)
  popped-fewer = fewer-then before.fewer popped.fewer

  -- whether it is current is as before
  pub popped-told : {b : Bool} → b ≡ is_present v f w' top → is_old (stamps_of v f w₀) top ≡ not b
  popped-told told = present-old v f w₀ top popped-named ∙ ap not (sym (told ∙ present-only popped-fewer.only top popped-named))

  -- it is old, and goes
  pub taking-old : {b : Bool} → b ≡ is_present v f w' top → b ≡ false → Taking v f w₀ p₀ q₀ n w' p' q' (left - 1)
  taking-old told fails = record {
    passed = top ∷ before.passed;
    fewer = popped-fewer;
    old = every-cons (is_old (stamps_of v f w₀)) top before.passed (popped-told told ∙ ap not fails) before.old;
  }

  -- no current entry comes before it
  popped-least : every (λ e. is_old (stamps_of v f w₀) e || leb (entry_rank top) (entry_rank e)) (entries_in v f w₀ p₀ q₀ n) ≡ true
  popped-least =
      let old : Entry → Bool = is_old (stamps_of v f w₀) in
      let after : Entry → Bool = λ e. leb (entry_rank top) (entry_rank e) in
      let either : Entry → Bool = λ e. old e || after e in
      bag-every popped-fewer.bag either
      ∙ every-both either (top ∷ before.passed) (entries_in v f w' p' q' (left - 1))
      (every-cons either top before.passed (or_inr (old top) (after top) (le-leb (entry_rank top) (entry_rank top) (le_refl (entry_rank top))))
      (every-implies old either (λ e passes. or_inl (old e) (after e) passes) before.passed before.old))
      (entries-every v f w' p' q' (left - 1) either
      (λ i l. let e = entry_in v f w' p' q' i in or_inr (old e) (after e) (le-leb (entry_rank top) (entry_rank e) (popped.least i l))))

  -- it is current, and is what was looked for
  pub taking-found : {b : Bool} → b ≡ is_present v f w' top → b ≡ true → TakenOff v f w₀ p₀ q₀ n w' p' q' top (left - 1)
  taking-found told passes = record {
    passed = before.passed;
    fewer = popped-fewer;
    was = popped-was;
    old = before.old;
    least = record { current = popped-told told ∙ ap not passes; least = popped-least };
  }

-- ---- what that says of the pairs

-- whether an entry's pair is of points below v
abbrev is_named : (v : ℕ) (e : Entry) → Bool
is_named v e = ltb e.pair.keep v && ltb e.pair.remove v

all_named : (v f : ℕ) (w : List ℕ) (p q : List Float) (n : ℕ) → QueueNamed v f w p q n → every (is_named v) (entries_in v f w p q n) ≡ true
all_named v f w p q n named =
    entries-every v f w p q n (is_named v)
    (λ i l. and_intro (lt-ltb (entry_in v f w p q i).pair.keep v (named i l).0) (lt-ltb (entry_in v f w p q i).pair.remove v (named i l).1))

-- an old entry isn't current
named-absent : (v f : ℕ) (w : List ℕ) (e : Entry) → is_named v e ≡ true → is_old (stamps_of v f w) e ≡ true → not (is_present v f w e) ≡ true
named-absent v f w e both old =
    let ends = both_true (ltb e.pair.keep v) (ltb e.pair.remove v) both in
    sym (present-old v f w e (ltb-true e.pair.keep v ends.0, ltb-true e.pair.remove v ends.1)) ∙ old

module _ {v f : ℕ} {w : List ℕ} {p q : List Float} {n : ℕ} {gone : List Entry} {w' : List ℕ} {p' q' : List Float} {n' : ℕ} (fewer : Fewer v f w p q n gone w' p' q' n')
    (named : QueueNamed v f w p q n) where
  gone-named : every (is_named v) gone ≡ true
  gone-named =
      and_elim_left (every (is_named v) gone) (every (is_named v) (entries_in v f w' p' q' n'))
      (sym (every_append (is_named v) gone (entries_in v f w' p' q' n'))
      ∙ sym (bag-every fewer.bag (is_named v))
      ∙ all_named v f w p q n named)

  -- where those that are gone were old, the open pairs stay
  pub old-gone-open : every (is_old (stamps_of v f w)) gone ≡ true → (g : Pair → ℕ) → sum g (open_in v f w' n') ≡ sum g (open_in v f w n)
  old-gone-open old g =
      let absent = every_two (is_named v) (is_old (stamps_of v f w)) (λ e. not (is_present v f w e)) (named-absent v f w) gone gone-named old in
      omega (arith, fewer-open fewer named g, old-weigh v f w g gone absent)

module _ {v f : ℕ} {w : List ℕ} {p q : List Float} {n : ℕ} {w' : List ℕ} {p' q' : List Float} {top : Entry} {left : ℕ} (named : QueueNamed v f w p q n)
    (taken : TakenOff v f w p q n w' p' q' top left) where
  pub taken-named : Named v top
  taken-named =
      let (j, l, same) = taken.was in
      subst (λ (e : Entry). Named v e) (sym same) (named j l)

  pub taken-present : is_present v f w top ≡ true
  taken-present = not-false (is_present v f w top) (sym (present-old v f w top taken-named) ∙ taken.least.current)

  -- the open pairs are fewer by its pair
  pub taken-sums : (g : Pair → ℕ) → sum g (open_in v f w' left) + g top.pair ≡ sum g (open_in v f w n)
  unfolding sum
  taken-sums g =
      let itself : weighed v f w g top ≡ g top.pair = rw taken-present in
      let absent = every_two (is_named v) (is_old (stamps_of v f w)) (λ e. not (is_present v f w e)) (named-absent v f w) taken.passed
      (every-tail (is_named v) top taken.passed (gone-named taken.fewer named)) taken.old in
      omega (arith, itself, fewer-open taken.fewer named g, old-weigh v f w g taken.passed absent)

-- where no entry was current, no pair was open
pub none_open : {v f : ℕ} {w : List ℕ} {p q : List Float} {n : ℕ} {w' : List ℕ} {p' q' : List Float} → QueueNamed v f w p q n → NoneLeft v f w p q n w' p' q' → open_in v f w n ≡ []
none_open {v} {f} {w} {p} {q} {n} named none = no_more (open_in v f w n)
    (sym (sum-length (open_in v f w n)) ∙ open-sum v f w p q n (λ x. 1)
    ∙ old-weigh v f w (λ x. 1) (entries_in v f w p q n)
    (every_two (is_named v) (is_old (stamps_of v f w)) (λ e. not (is_present v f w e)) (named-absent v f w) (entries_in v f w p q n) (all_named v f w p q n named) none.old))
  where
    no_more : (ps : List Pair) → length ps ≡ 0 → ps ≡ []
    no_more [] e = refl
    no_more (p ∷ ps) e = absurd (omega arith)
