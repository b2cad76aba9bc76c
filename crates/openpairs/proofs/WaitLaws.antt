-- The listed points, one after another: the pairs of those passed are open.
-- Assumes nothing.
use Prim.Native.Nat.{ℕ, ◌+◌, ◌*◌, ◌≤◌, ◌<◌}
use native.Mathlib.Nat.{add-zero}
use native.Mathlib.Numerals.{add-one}
use native.Mathlib.Omega.{arith}
use mathlib.Core.Path.{◌≡◌, sym, ap, ◌∙◌}
use mathlib.Core.List.{List}
use mathlib.Core.Bool.{Bool, true, false, cond}
use lib.ListN.{get_or}
use lib.Ieee.{Float}
use Rattle.std.specs.Prelude.{Option}
use Rattle.walk.specs.declared.Pair.{Pair}
use Rattle.lists.specs.Lists.{sum, below}
use Rattle.walk.specs.Pairs.{pair_of}
use Rattle.lists.proofs.SumLaws.{sum-map, sum-those, sum-length}
use Rattle.lists.proofs.BelowLaws.{sum_below, sum-partial}
use Rattle.memory.specs.Memory.{Room, around_in}
use Rattle.lists.specs.Frames.{But}
use Rattle.lists.proofs.FrameLaws.{but-refl, but-then, but-widen}
use Rattle.mesh.proofs.AroundLaws.{sum-slots}
use Rattle.openpairs.specs.State.{open_pairs}
use Rattle.openpairs.specs.Clauses.Changes.{Added}
use Rattle.openpairs.proofs.OpenLaws.{open-length, pushed, pushed-but, pushed-sum}
use Rattle.openpairs.specs.Clauses.Waiting.{fits, waiting, PairsReady}
use Rattle.memory.specs.Layout.{around_from, keeps_from, kinds_from, marks_from, near_from}

module _ (v f : ℕ) (w : List ℕ) (p q : List Float) (limit : Option Float) (bound : Float) (x : ℕ) where
  -- ---- the pairs that wait, as a sum over the listed points and over their places

  -- what the point y adds to it
  abbrev pub waits : (Pair → ℕ) → ℕ → ℕ
  waits g y = cond (fits v f w p q limit bound x y) (g (pair_of x y)) 0

  pub waiting-sum : (n : ℕ) (g : Pair → ℕ) → sum g (waiting v f w p q limit bound x n) ≡ sum (waits g) (around_in v f w n)
  unfolding waiting
  waiting-sum n g = sum-map g (pair_of x) _ ∙ sum-those (λ y. g (pair_of x y)) _ (around_in v f w n)

  abbrev waits_at : (Pair → ℕ) → ℕ → ℕ
  waits_at g i = waits g (get_or w (around_from v f + i) 0)

  waiting-places : (n : ℕ) (g : Pair → ℕ) → sum g (waiting v f w p q limit bound x n) ≡ sum (waits_at g) (below n)
  waiting-places n g = waiting-sum n g ∙ sum-slots (waits g) w (around_from v f) n

  waiting_none : (g : Pair → ℕ) → sum g (waiting v f w p q limit bound x 0) ≡ 0
  unfolding sum below
  waiting_none g = waiting-places 0 g

  waiting-next : (n : ℕ) (g : Pair → ℕ) →
      sum g (waiting v f w p q limit bound x (n + 1)) ≡ sum g (waiting v f w p q limit bound x n) + waits_at g n
  waiting-next n g = rw add-one (waiting-places _ g ∙ sum_below (waits_at g) n ∙ ap (λ (k : ℕ). k + waits_at g n) (sym (waiting-places n g)))

  -- of fewer points there wait no more
  waiting-most : (m n : ℕ) → m ≤ n → sum (λ r. 1) (waiting v f w p q limit bound x m) ≤ sum (λ r. 1) (waiting v f w p q limit bound x n)
  waiting-most m n l =
      rw (waiting-places m (λ r. 1), waiting-places n (λ r. 1)) (sum-partial (waits_at (λ r. 1)) m n l)

-- a pair is eligible or not by what its points carry
pub fits-but : (v f : ℕ) {lo hi : ℕ} {w w' : List ℕ} (p q : List Float) (limit : Option Float) (bound : Float) (x y : ℕ) → But lo hi w w' → marks_from v f ≤ lo →
    x < v → y < v → fits v f w' p q limit bound x y ≡ fits v f w p q limit bound x y
unfolding fits
fits-but v f p q limit bound x y but above x-in y-in =
    rw (but.under (kinds_from v f + x) (omega arith), but.under (kinds_from v f + y) (omega arith))

-- ---- one point after another

-- the pairs of the first i listed points are open, and the list is as it was
pub record Opening (v f : ℕ) (w₀ : List ℕ) (p q : List Float) (limit : Option Float) (bound : Float) (x n : ℕ) (w : List ℕ) (now-open i : ℕ) : Type 0 where
  pub but : But (keeps_from v f) (near_from v f) w₀ w
  pub sums : (g : Pair → ℕ) → sum g (open_pairs v f w now-open) ≡ sum g (open_pairs v f w₀ n) + sum g (waiting v f w₀ p q limit bound x i)

module _ {v f : ℕ} {w₀ : List ℕ} {p q : List Float} {limit : Option Float} {bound : Float} {x n : ℕ} where
  pub opening-none : Opening v f w₀ p q limit bound x n w₀ n 0
  opening-none = record { but = but-refl _ _ w₀; sums = λ g. omega (arith, waiting_none v f w₀ p q limit bound x g) }

  module _ {w : List ℕ} {now-open i count : ℕ} (before : Opening v f w₀ p q limit bound x n w now-open i)
      (ready : PairsReady v f w₀ p q limit bound x count n) (inside : i < count) where
    pub opening-room : Room v f w
    opening-room = record {
      points_few = ready.room.points_few;
      faces_few = ready.room.faces_few;
      long = omega (arith, ready.room.long, before.but.same_length);
    }

    -- the point that is read is one of the points
    same_point : {y : ℕ} → y ≡ get_or w (around_from v f + i) 0 → y ≡ get_or w₀ (around_from v f + i) 0
    same_point here = here ∙ before.but.over (around_from v f + i) (omega arith)

    pub opening-point : {y : ℕ} → y ≡ get_or w (around_from v f + i) 0 → y < v
    opening-point here = omega (arith, same_point here, ready.points i inside)

    -- one more is looked at
    looked : {y : ℕ} {t : Bool} → y ≡ get_or w (around_from v f + i) 0 → fits v f w p q limit bound x y ≡ t → (g : Pair → ℕ) →
        sum g (open_pairs v f w₀ n) + sum g (waiting v f w₀ p q limit bound x (i + 1)) ≡ sum g (open_pairs v f w now-open) + cond t (g (pair_of x y)) 0
    looked {y} {t} here tested g =
        let one : waits v f w₀ p q limit bound x g (get_or w₀ (around_from v f + i) 0) ≡ cond t (g (pair_of x y)) 0 =
        rw (← same_point here)
        (ap (λ (b : Bool). cond b (g (pair_of x y)) 0)
        (sym (fits-but v f p q limit bound x y before.but (omega arith) ready.point (opening-point here)) ∙ tested)) in
        omega (arith, before.sums g, waiting-next v f w₀ p q limit bound x i g, one)

    -- its pair is not eligible
    pub opening-refused : {y : ℕ} → y ≡ get_or w (around_from v f + i) 0 → fits v f w p q limit bound x y ≡ false →
        Opening v f w₀ p q limit bound x n w now-open (i + 1)
    opening-refused here refused = record { but = before.but; sums = λ g. sym (add-zero _) ∙ sym (looked here refused g) }

    -- its pair is eligible: there is a place for it, and it is opened
    module _ {y : ℕ} (here : y ≡ get_or w (around_from v f + i) 0) (fit : fits v f w p q limit bound x y ≡ true) where
      pub opening-place : now-open < 3 * f
      opening-place =
          omega (
            arith,
            ready.enough,
            looked here fit (λ r. 1),
            waiting-most v f w₀ p q limit bound x (i + 1) count (omega arith),
            sum-length (waiting v f w₀ p q limit bound x count),
            sum-length (open_pairs v f w₀ n),
            open-length v f w₀ n,
            sum-length (open_pairs v f w now-open),
            open-length v f w now-open,
          )

      pub opening-pair : {w' : List ℕ} → w' ≡ pushed v f w now-open x y → Opening v f w₀ p q limit bound x n w' (now-open + 1) (i + 1)
      opening-pair e = record {
        but = rw e (but-then before.but (pushed-but opening-room now-open x y opening-place));
        sums = λ g. rw e (pushed-sum opening-room now-open x y opening-place g ∙ sym (looked here fit g));
      }

  -- all of them
  pub opening-all : {w : List ℕ} {now-open i count : ℕ} → i ≡ count → Opening v f w₀ p q limit bound x n w now-open i →
      Added v f w₀ n (waiting v f w₀ p q limit bound x count) w now-open
  opening-all e end = record {
    but = but-widen (omega arith) (omega arith) end.but;
    sums = λ g. end.sums g ∙ ap (λ (k : ℕ). sum g (open_pairs v f w₀ n) + sum g (waiting v f w₀ p q limit bound x k)) e;
  }
