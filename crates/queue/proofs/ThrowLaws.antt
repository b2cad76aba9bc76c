-- The old entries are thrown out: one pass puts the current ones first, and these are made a heap.
-- Assumes nothing.
use Prim.Native.Nat.{ℕ, ◌+◌, ◌*◌, ◌≤◌, ◌<◌}
use native.Mathlib.Omega.{arith}
use mathlib.Core.Path.{◌≡◌, refl, sym, ap, ap₂, subst, ◌∙◌}
use mathlib.Core.List.{List, [], ◌∷◌, ◌++◌}
use mathlib.Core.Bool.{Bool, true, false, not, ◌||◌, cond}
use mathlib.Mathlib.Data.Bool.Basic.{or_inl}
use lib.Dec.{leb}
use lib.Ieee.{Float}
use lib.ListN.{length}
use Rattle.lists.specs.Lists.{those, every, below}
use Rattle.lists.proofs.SumLaws.{sum-length}
use Rattle.lists.proofs.BagLaws.{bag-refl, bag-sym, bag-trans, bag-append, bag-length, bag-every}
use Rattle.lists.proofs.BelowLaws.{sum-same-below}
use Rattle.lists.proofs.EveryLaws.{every-both, every-implies, every-passed, length-those, those-next}
use Rattle.lists.proofs.PartLaws.{bag-parts}
use Rattle.memory.specs.declared.entries.Entry.{Entry}
use Rattle.memory.specs.Entries.{entry_in, EntryRoom, EntriesOnly, EntrySet}
use Rattle.memory.proofs.EntryLaws.{only-refl, only_then, room-only}
use Rattle.queue.specs.State.{open_in}
use Rattle.queue.specs.Stored.{stamps_of, entries_in, is_old, entry_rank}
use Rattle.queue.specs.Clauses.Order.{Settled}
use Rattle.queue.specs.Clauses.Queued.{Queue, Named, QueueNamed, is_present}
use Rattle.queue.specs.Clauses.Changes.{Were, Fewer, CurrentFirst, ThrownOut, RoomMade, TookCurrent}
use Rattle.std.specs.Prelude.{Option, Some, None}
use Rattle.queue.proofs.HeapLaws.{by-same}
use Rattle.queue.proofs.HoleLaws.{entries-sum, shuffled-bag}
use Rattle.queue.proofs.PresentLaws.{present-old, stamps-only, present-only, entries-length, entries-more, entries-same, weighed, open-sum}
use Rattle.queue.proofs.TakeLaws.{fewer-none, fewer-then, was-before}

-- the test of what stays
abbrev pub stays : (v f : ℕ) (w : List ℕ) → Entry → Bool
stays v f w e = not (is_old (stamps_of v f w) e)

twice : (b : Bool) → not (not b) ≡ b
twice true = refl
twice false = refl

stays-present : (v f : ℕ) (w : List ℕ) (e : Entry) → Named v e → stays v f w e ≡ is_present v f w e
stays-present v f w e named = ap not (present-old v f w e named) ∙ twice (is_present v f w e)

-- ---- the pass

-- The first i entries are looked at, and the kept ones that were current come first, in their order. Those to come are as they were.
pub record Gathering (v f : ℕ) (w₀ : List ℕ) (p₀ q₀ : List Float) (n : ℕ) (w : List ℕ) (p q : List Float) (kept i : ℕ) : Type 0 where
  pub few : kept ≤ i
  pub only : EntriesOnly v f w₀ p₀ q₀ w p q
  pub ahead : (j : ℕ) → i ≤ j → j < n → entry_in v f w p q j ≡ entry_in v f w₀ p₀ q₀ j
  pub done : entries_in v f w p q kept ≡ those (stays v f w₀) (entries_in v f w₀ p₀ q₀ i)
  pub were : Were v f w₀ p₀ q₀ n w p q kept

pub gathering-none : (v f : ℕ) (w : List ℕ) (p q : List Float) (n : ℕ) → Gathering v f w p q n w p q 0 0
unfolding entries_in below those
gathering-none v f w p q n = record {
  few = omega arith;
  only = only-refl v f w p q;
  ahead = λ j l m. refl;
  done = refl;
  were = λ i l. absurd (omega arith);
}

module _ {v f : ℕ} {w₀ : List ℕ} {p₀ q₀ : List Float} {n : ℕ} {w : List ℕ} {p q : List Float} {kept i : ℕ} {e : Entry}
    (named : QueueNamed v f w₀ p₀ q₀ n) (inside : i < n) (before : Gathering v f w₀ p₀ q₀ n w p q kept i) (read : e ≡ entry_in v f w p q i) where
  -- it is the one that stood there
  looked : entry_in v f w₀ p₀ q₀ i ≡ e
  looked = sym (read ∙ before.ahead i (omega arith) inside)

  pub looked-named : Named v e
  looked-named = subst (λ (x : Entry). Named v x) looked (named i inside)

  looked-stays : {b : Bool} → b ≡ is_present v f w e → stays v f w₀ e ≡ b
  looked-stays told = stays-present v f w₀ e looked-named ∙ sym (told ∙ present-only before.only e looked-named)

  those-looked : {b : Bool} → b ≡ is_present v f w e → those (stays v f w₀) (entries_in v f w₀ p₀ q₀ (i + 1)) ≡ those (stays v f w₀) (entries_in v f w₀ p₀ q₀ i) ++ cond b (e ∷ []) []
  those-looked told =
      ap (those (stays v f w₀)) (entries-more v f w₀ p₀ q₀ i) ∙ those-next (stays v f w₀) (entries_in v f w₀ p₀ q₀ i) looked (looked-stays told)

  -- it is current, and comes to the others
  pub gathering-kept : {b : Bool} {w' : List ℕ} {p' q' : List Float} → b ≡ true → b ≡ is_present v f w e → EntrySet v f w p q kept e w' p' q' →
      Gathering v f w₀ p₀ q₀ n w' p' q' (kept + 1) (i + 1)
  gathering-kept {b} {w'} {p'} {q'} passes told written =
      let few = before.few in
      record {
        few = omega arith;
        only = only_then before.only written.only;
        ahead = λ j l m. written.other j (omega arith) ∙ before.ahead j (omega arith) m;
        done =
            entries-more v f w' p' q' kept
            ∙ ap₂ (λ (es : List Entry) (x : Entry). es ++ (x ∷ []))
            (entries-same v f w p q w' p' q' kept (λ j l. written.other j (omega arith)) ∙ before.done) written.here
            ∙ sym (those-looked told ∙ ap (λ (c : Bool). those (stays v f w₀) (entries_in v f w₀ p₀ q₀ i) ++ cond c (e ∷ []) []) passes);
        were = λ j l.
            by-same j kept
            (λ d. (i, inside, ap (entry_in v f w' p' q') d ∙ written.here ∙ sym looked))
            (λ d.
            let low : j < kept = omega arith in
            let (k, m, same) = before.were j low in
            (k, m, written.other j d ∙ same));
      }

  -- it is old, and stays behind: the next one will stand where it was written
  pub gathering-old : {b : Bool} {w' : List ℕ} {p' q' : List Float} → b ≡ false → b ≡ is_present v f w e → EntrySet v f w p q kept e w' p' q' →
      Gathering v f w₀ p₀ q₀ n w' p' q' kept (i + 1)
  gathering-old {b} {w'} {p'} {q'} fails told written =
      let few = before.few in
      record {
        few = omega arith;
        only = only_then before.only written.only;
        ahead = λ j l m. written.other j (omega arith) ∙ before.ahead j (omega arith) m;
        done =
            entries-same v f w p q w' p' q' kept (λ j l. written.other j (omega arith))
            ∙ before.done
            ∙ sym (append-none _)
            ∙ sym (those-looked told ∙ ap (λ (c : Bool). those (stays v f w₀) (entries_in v f w₀ p₀ q₀ i) ++ cond c (e ∷ []) []) fails);
        were = λ j l.
            let (k, m, same) = before.were j l in
            (k, m, written.other j (omega arith) ∙ same);
      }
    where
      append-none : (es : List Entry) → es ++ [] ≡ es
      append-none [] = refl
      append-none (x ∷ es) = ap (λ (rest : List Entry). x ∷ rest) (append-none es)

pub gathering-all : {v f : ℕ} {w₀ : List ℕ} {p₀ q₀ : List Float} {n : ℕ} {w : List ℕ} {p q : List Float} {kept i : ℕ} → i ≡ n → Gathering v f w₀ p₀ q₀ n w p q kept i →
    CurrentFirst v f w₀ p₀ q₀ n w p q kept
gathering-all all end =
    let few = end.few in
    record { only = end.only; few = omega arith; current = rw all at end.done; were = end.were }

-- ---- what is left

module _ {v f : ℕ} {w : List ℕ} {p q : List Float} {n : ℕ} {w' : List ℕ} {p' q' : List Float} {r : ℕ} (queue : Queue v f w p q n) (first : CurrentFirst v f w p q n w' p' q' r) where
  pub kept-room : EntryRoom v f w' p' q' × (r ≤ 3 * f)
  kept-room = (room-only first.only queue.enough, omega (arith, first.few, queue.few))

  pub throwing : {w'' : List ℕ} {p'' q'' : List Float} → Settled v f r w' p' q' w'' p'' q'' → ThrownOut v f w p q n w'' p'' q'' r
  throwing {w''} {p''} {q''} settled = record {
    only = only_then first.only settled.only;
    queue = record { enough = room-only settled.only kept-room.0; few = kept-room.1; ordered = settled.ordered };
    current = rw first.current at (shuffled-bag v f w' p' q' w'' p'' q'' settled.shuffled);
    were = λ i l.
        let (j, m, same) = settled.shuffled.from i l in
        let (k, o, there) = first.were j m in
        (k, o, same ∙ there);
  }

-- ---- what that says of the others

module _ {v f : ℕ} {w : List ℕ} {p q : List Float} {n : ℕ} {w' : List ℕ} {p' q' : List Float} {n' : ℕ} (out : ThrownOut v f w p q n w' p' q' n') where
  -- those that don't stay are gone, and were old
  abbrev pub thrown : List Entry
  thrown = those (λ e. not (stays v f w e)) (entries_in v f w p q n)

  pub thrown-fewer : Fewer v f w p q n thrown w' p' q' n'
  thrown-fewer = record {
    only = out.only;
    queue = out.queue;
    bag =
        bag-trans (bag-parts (stays v f w) (entries_in v f w p q n))
        (bag-append {xs = those (λ e. not (stays v f w e)) (entries_in v f w p q n)} bag-refl (bag-sym out.current));
    were = out.were;
  }

  pub thrown-old : every (is_old (stamps_of v f w)) thrown ≡ true
  thrown-old = every-passed (λ e. not (stays v f w e)) (λ e o. sym (twice (is_old (stamps_of v f w) e)) ∙ o) (entries_in v f w p q n)

  module _ (named : QueueNamed v f w p q n) where
    -- as many stay as pairs are open
    pub thrown-counted : n' ≡ length (open_in v f w n)
    thrown-counted =
        let es = entries_in v f w p q n in
        sym (entries-length v f w' p' q' n')
        ∙ bag-length out.current
        ∙ length-those (stays v f w) es
        ∙ entries-sum v f w p q n (λ e. cond (stays v f w e) 1 0)
        ∙ sum-same-below _ _ n (λ i l. ap (λ (b : Bool). cond b 1 0) (stays-present v f w (entry_in v f w p q i) (named i l)))
        ∙ sym (entries-sum v f w p q n (weighed v f w (λ x. 1)))
        ∙ sym (open-sum v f w p q n (λ x. 1))
        ∙ sum-length (open_in v f w n)

    -- so where fewer are open than there are places, there is room
    pub thrown-room : length (open_in v f w n) < 3 * f → RoomMade v f w p q n w' p' q' n'
    thrown-room few = record { thrown = thrown; fewer = thrown-fewer; old = thrown-old; free = omega (arith, thrown-counted) }

-- where a place is free nothing is thrown out
pub room-already : {v f : ℕ} {w : List ℕ} {p q : List Float} {n : ℕ} → Queue v f w p q n → n < 3 * f → RoomMade v f w p q n w p q n
unfolding every
room-already queue few = record { thrown = []; fewer = fewer-none queue; old = refl; free = few }

-- ---- old ones are thrown out, and then the first current one is taken off

took-then : {v f : ℕ} {w : List ℕ} {p q : List Float} {n : ℕ} {gone : List Entry} {w' : List ℕ} {p' q' : List Float} {n' : ℕ} (w'' : List ℕ) (p'' q'' : List Float) (r : Option (Entry × ℕ)) →
    Fewer v f w p q n gone w' p' q' n' → every (is_old (stamps_of v f w)) gone ≡ true → TookCurrent v f w' p' q' n' w'' p'' q'' r → TookCurrent v f w p q n w'' p'' q'' r
took-then {v} {f} {w} {p} {q} {n} {gone} {w'} {p'} {q'} {n'} w'' p'' q'' (Some (top, left)) fewer old took =
    let stamps = stamps-only fewer.only in
    let either : Entry → Bool = λ e. is_old (stamps_of v f w) e || leb (entry_rank top) (entry_rank e) in
    let after : Entry → Bool = λ e. leb (entry_rank top) (entry_rank e) in
    record {
      passed = took.passed ++ gone;
      fewer = fewer-then fewer took.fewer;
      was = was-before fewer took.was;
      old = every-both (is_old (stamps_of v f w)) took.passed gone (rw stamps at took.old) old;
      least = record {
        current = rw stamps at took.least.current;
        least =
            bag-every fewer.bag either
            ∙ every-both either gone (entries_in v f w' p' q' n')
            (every-implies (is_old (stamps_of v f w)) either (λ e o. or_inl (is_old (stamps_of v f w) e) (after e) o) gone old)
            (rw stamps at took.least.least);
      };
    }
took-then {v} {f} {w} {w' = w'} {p'} {q'} {n'} w'' p'' q'' None fewer old none =
    let stamps = stamps-only fewer.only in
    let test = is_old (stamps_of v f w) in
    record {
      only = only_then fewer.only none.only;
      queue = none.queue;
      old = bag-every fewer.bag test ∙ every-both test _ (entries_in v f w' p' q' n') old (rw stamps at none.old);
    }

pub took-thrown : {v f : ℕ} {w : List ℕ} {p q : List Float} {n : ℕ} {w' : List ℕ} {p' q' : List Float} {n' : ℕ} (w'' : List ℕ) (p'' q'' : List Float) (r : Option (Entry × ℕ)) →
    ThrownOut v f w p q n w' p' q' n' → TookCurrent v f w' p' q' n' w'' p'' q'' r → TookCurrent v f w p q n w'' p'' q'' r
took-thrown w'' p'' q'' r out took = took-then w'' p'' q'' r (thrown-fewer out) (thrown-old out) took
