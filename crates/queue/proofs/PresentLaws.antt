-- What an entry is by the present stamps, and what the entries hang on: where no cell but those of entries changes, an entry is as current as it was, and
-- knows what it knew.
-- Assumes nothing.
use Prim.Native.Nat.{ℕ, ◌+◌, ◌*◌, ◌≤◌, ◌<◌}
use native.Mathlib.Omega.{arith}
use native.Mathlib.Numerals.{add-one}
use mathlib.Core.Path.{◌≡◌, sym, ap, ap₂, subst, ◌∙◌}
use mathlib.Core.List.{List, [], ◌∷◌, ◌++◌, map-append}
use mathlib.Core.Bool.{Bool, true, not, ◌&&◌, cond}
use lib.Dec.{eqb}
use lib.Ieee.{Float}
use lib.ListN.{length, get_or}
use Rattle.placement.specs.Pairs.{pair_place, pair_cost}
use Rattle.walk.specs.declared.Pair.{Pair}
use Rattle.lists.specs.Frames.{But}
use Rattle.lists.specs.Lists.{sum, those, every, below}
use Rattle.lists.proofs.SumLaws.{sum-append, sum-map, sum-those}
use Rattle.lists.proofs.BelowLaws.{get_d-each, length-each, map-same-below, sum-same-below, every-each, every-below}
use Rattle.lists.proofs.PartLaws.{sum-failed}
use Rattle.memory.specs.declared.entries.Entry.{Entry}
use Rattle.memory.specs.Points.{vertex_at}
use Rattle.memory.specs.Entries.{entry_pair, entry_in, stamp, EntriesOnly}
use Rattle.memory.specs.Layout.{entries_from, kinds_from, stamps_from}
use Rattle.memory.proofs.PointLaws.{point-same, quadric-same}
use Rattle.queue.specs.State.{is_current, open_in}
use Rattle.queue.specs.Stored.{stamps_of, entries_in, is_old}
use Rattle.queue.specs.Clauses.Queued.{Named, QueueNamed, is_present, EntryKept, Kept}
use Rattle.queue.specs.Clauses.Changes.{Were, Fewer}
use Rattle.queue.proofs.HoleLaws.{entries-sum}

-- ---- the stamps

-- the stamp of a point, among the present ones
pub stamp-of : (v f : ℕ) (w : List ℕ) (x : ℕ) → x < v → get_or (stamps_of v f w) x 0 ≡ stamp v f w x
unfolding stamps_of
stamp-of v f w x inside = get_d-each (stamp v f w) v x 0 inside

-- where each is as it was, so are all
pub stamps-same : (v f : ℕ) (w w' : List ℕ) → ((x : ℕ) → x < v → stamp v f w' x ≡ stamp v f w x) → stamps_of v f w' ≡ stamps_of v f w
unfolding stamps_of
stamps-same v f w w' same = map-same-below (stamp v f w') (stamp v f w) v same

-- where their cells stay
pub stamps-over : (v f : ℕ) {lo hi : ℕ} {w w' : List ℕ} → But lo hi w w' → entries_from v f ≤ lo → stamps_of v f w' ≡ stamps_of v f w
stamps-over v f {w = w} {w' = w'} but above = stamps-same v f w w' (λ x l. but.under (stamps_from v f + x) (omega arith))

-- an entry is old where it isn't current
pub present-old : (v f : ℕ) (w : List ℕ) (e : Entry) → Named v e → is_old (stamps_of v f w) e ≡ not (is_present v f w e)
present-old v f w e named =
    ap₂ (λ (x y : ℕ). not (eqb e.keepstamp x && eqb e.removestamp y))
    (stamp-of v f w e.pair.keep named.0)
    (stamp-of v f w e.pair.remove named.1)

-- ---- the entries of a queue

-- there are n
pub entries-length : (v f : ℕ) (w : List ℕ) (p q : List Float) (n : ℕ) → length (entries_in v f w p q n) ≡ n
unfolding entries_in
entries-length v f w p q n = length-each (entry_in v f w p q) n

-- one more
pub entries-more : (v f : ℕ) (w : List ℕ) (p q : List Float) (n : ℕ) → entries_in v f w p q (n + 1) ≡ entries_in v f w p q n ++ (entry_in v f w p q n ∷ [])
unfolding entries_in below
entries-more v f w p q n = rw add-one (map-append (entry_in v f w p q) (below n) (n ∷ []))

-- the same in each place, the same list
pub entries-same : (v f : ℕ) (w : List ℕ) (p q : List Float) (w' : List ℕ) (p' q' : List Float) (n : ℕ) →
    ((i : ℕ) → i < n → entry_in v f w' p' q' i ≡ entry_in v f w p q i) → entries_in v f w' p' q' n ≡ entries_in v f w p q n
unfolding entries_in
entries-same v f w p q w' p' q' n same = map-same-below (entry_in v f w' p' q') (entry_in v f w p q) n same

-- every one passes where each place does
pub entries-every : (v f : ℕ) (w : List ℕ) (p q : List Float) (n : ℕ) (test : Entry → Bool) → ((i : ℕ) → i < n → test (entry_in v f w p q i) ≡ true) →
    every test (entries_in v f w p q n) ≡ true
unfolding entries_in
entries-every v f w p q n test passes = every-below test (entry_in v f w p q) n passes

-- and where every one passes each place does
pub entries-each : (v f : ℕ) (w : List ℕ) (p q : List Float) (n : ℕ) (test : Entry → Bool) → every test (entries_in v f w p q n) ≡ true →
    (i : ℕ) → i < n → test (entry_in v f w p q i) ≡ true
unfolding entries_in
entries-each v f w p q n test all = every-each test (entry_in v f w p q) n all

-- a weight of the pair of a current entry, else nothing
abbrev pub weighed : (v f : ℕ) (w : List ℕ) (g : Pair → ℕ) → Entry → ℕ
weighed v f w g e = cond (is_present v f w e) (g e.pair) 0

-- a weight summed over the open pairs is summed over the current entries
pub open-sum : (v f : ℕ) (w : List ℕ) (p q : List Float) (n : ℕ) (g : Pair → ℕ) → sum g (open_in v f w n) ≡ sum (weighed v f w g) (entries_in v f w p q n)
unfolding open_in
open-sum v f w p q n g =
    sum-map g (entry_pair v f w) (those (is_current v f w) (below n))
    ∙ sum-those (λ i. g (entry_pair v f w i)) (is_current v f w) (below n)
    ∙ sym (entries-sum v f w p q n (weighed v f w g))

-- ---- no cell but those of entries changes

module _ {v f : ℕ} {w : List ℕ} {p q : List Float} {w' : List ℕ} {p' q' : List Float} (only : EntriesOnly v f w p q w' p' q') where
  pub stamp-only : (x : ℕ) → x < v → stamp v f w' x ≡ stamp v f w x
  stamp-only x l = only.but.under (stamps_from v f + x) (omega arith)

  pub stamps-only : stamps_of v f w' ≡ stamps_of v f w
  stamps-only = stamps-same v f w w' stamp-only

  vertex-only : (x : ℕ) → x < v → vertex_at v f w' p' q' x ≡ vertex_at v f w p q x
  vertex-only x l =
      rw (
        only.but.under (kinds_from v f + x) (omega arith),
        point-same p' p x x (λ k m. only.points_but.under (3 * x + k) (omega arith)),
        quadric-same q' q x x (λ k m. only.quadrics_but.under (10 * x + k) (omega arith)),
      )

  -- an entry is as current as before
  pub present-only : (e : Entry) → Named v e → is_present v f w' e ≡ is_present v f w e
  present-only e named =
      ap₂ (λ (x y : ℕ). eqb e.keepstamp x && eqb e.removestamp y) (stamp-only e.pair.keep named.0) (stamp-only e.pair.remove named.1)

  -- and knows what it knew
  pub kept-only : (bound : Float) (e : Entry) → EntryKept v f w p q bound e → EntryKept v f w' p' q' bound e
  kept-only bound e kept =
      let named = kept.named in
      let keep = vertex-only e.pair.keep named.0 in
      let remove = vertex-only e.pair.remove named.1 in
      record {
        named = named;
        older = (rw (stamp-only e.pair.keep named.0) kept.older.0, rw (stamp-only e.pair.remove named.1) kept.older.1);
        cost = λ now. kept.cost (sym (present-only e named) ∙ now) ∙ sym (ap₂ (pair_cost bound) keep remove);
        place = λ now. kept.place (sym (present-only e named) ∙ now) ∙ sym (ap₂ (pair_place bound) keep remove);
      }

  module _ {n n' : ℕ} (were : Were v f w p q n w' p' q' n') where
    -- the pairs of what is left are of points below v
    pub named-were : QueueNamed v f w p q n → QueueNamed v f w' p' q' n'
    named-were named i l =
        let (j, m, same) = were i l in
        subst (λ (e : Entry). Named v e) (sym same) (named j m)

    pub kept-were : (bound : Float) → Kept v f w p q n bound → Kept v f w' p' q' n' bound
    kept-were bound kept i l =
        let (j, m, same) = were i l in
        subst (λ (e : Entry). EntryKept v f w' p' q' bound e) (sym same) (kept-only bound (entry_in v f w p q j) (kept j m))

-- what is weighed of what is left is weighed by the stamps of before
pub weighed-were : {v f : ℕ} {w : List ℕ} {p q : List Float} {w' : List ℕ} {p' q' : List Float} {n' : ℕ} → EntriesOnly v f w p q w' p' q' →
    QueueNamed v f w' p' q' n' → (g : Pair → ℕ) → sum (weighed v f w' g) (entries_in v f w' p' q' n') ≡ sum (weighed v f w g) (entries_in v f w' p' q' n')
weighed-were {v} {f} {w} {w' = w'} {p'} {q'} {n'} only named g =
    entries-sum v f w' p' q' n' (weighed v f w' g)
    ∙ sum-same-below _ _ n' (λ i l. ap (λ (b : Bool). cond b (g (entry_pair v f w' i)) 0) (present-only only (entry_in v f w' p' q' i) (named i l)))
    ∙ sym (entries-sum v f w' p' q' n' (weighed v f w g))

-- ---- some are queued no more

module _ {v f : ℕ} {w : List ℕ} {p q : List Float} {n : ℕ} {gone : List Entry} {w' : List ℕ} {p' q' : List Float} {n' : ℕ} (fewer : Fewer v f w p q n gone w' p' q' n')
    (named : QueueNamed v f w p q n) where
  -- the open pairs are fewer by those of the ones that are gone
  pub fewer-open : (g : Pair → ℕ) → sum g (open_in v f w' n') + sum (weighed v f w g) gone ≡ sum g (open_in v f w n)
  fewer-open g =
      let still = named-were fewer.only fewer.were named in
      omega (
        arith,
        open-sum v f w' p' q' n' g,
        weighed-were fewer.only still g,
        fewer.bag.sums (weighed v f w g),
        sum-append (weighed v f w g) gone (entries_in v f w' p' q' n'),
        open-sum v f w p q n g,
      )

-- what is old weighs nothing
pub old-weigh : (v f : ℕ) (w : List ℕ) (g : Pair → ℕ) (gone : List Entry) → every (λ e. not (is_present v f w e)) gone ≡ true → sum (weighed v f w g) gone ≡ 0
old-weigh v f w g gone old = sum-failed (is_present v f w) (λ e. g e.pair) gone old
