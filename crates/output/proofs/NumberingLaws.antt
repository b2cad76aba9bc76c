-- The points that have been met, one point after another: what a mark says of a point, and what noting a point leaves.
-- Assumes nothing.
use Prim.Native.Nat.{ℕ, ◌+◌, ◌*◌, ◌-◌, ◌≤◌, ◌<◌}
use native.Mathlib.Omega.{arith}
use mathlib.Core.Path.{◌≡◌, refl, sym, ap, ◌∙◌}
use mathlib.Core.List.{List, [], ◌∷◌, ◌++◌}
use mathlib.Core.Bool.{true, false, cond, or-false}
use lib.Dec.{ltb, eqb}
use lib.ListN.{length, get_or, set, length-append}
use lib.Seq.{get_or-set_same, get_or-set_other}
use lib.Ieee.{Float, nan}
use borrow.Author.Tests.{lt-ltb, eqb-true, eqb-false}
use Rattle.walk.specs.Output.{noted, place_in}
use Rattle.lists.proofs.TestLaws.{by-test}
use Rattle.walk.proofs.PlaceLaws.{has, once-length, has-noted, noted-has, place-noted, place-new, once-noted, noted-every}
use Rattle.memory.specs.Memory.{mark, Room}
use Rattle.lists.proofs.FrameLaws.{but-refl, but-set}
use Rattle.meaning.specs.Input.{point_at}
use Rattle.memory.specs.Points.{parts_of}
use Rattle.output.specs.declared.writing.NewNumber.{NewNumber}
use Rattle.lists.specs.Lists.{overlaid}
use Rattle.output.specs.Clauses.Numbering.{parts_put, Met, Known, Numbered}
use Rattle.lists.proofs.OverlayLaws.{over-three, length_over}
use Rattle.memory.specs.Layout.{marks_from, stamps_from}

-- ---- the parts of points

-- the parts of one list of points after another
parts-append : (p : List Float) (xs ys : List ℕ) → parts_of p (xs ++ ys) ≡ parts_of p xs ++ parts_of p ys
unfolding parts_of
parts-append p [] ys = refl
parts-append p (x ∷ xs) ys = ap (λ (l : List Float). get_or p (3 * x) nan ∷ get_or p (3 * x + 1) nan ∷ get_or p (3 * x + 2) nan ∷ l) (parts-append p xs ys)

-- three parts to a point
length-parts : (p : List Float) (xs : List ℕ) → length (parts_of p xs) ≡ 3 * length xs
unfolding parts_of
length-parts p [] = refl
length-parts p (x ∷ xs) = omega (arith, length-parts p xs)

-- a new number is noted at the end
new-at-end : (seen : List ℕ) (x : ℕ) → has seen x ≡ false → noted seen x ≡ seen ++ (x ∷ [])
new-at-end seen x fresh = rw fresh

module _ {v f : ℕ} {p old : List Float} {seen w : List ℕ} {points : List Float} {met : ℕ} (m : Met v f p old seen w points met) where
  -- ---- what is known of a list of points met

  -- no more points are met than there are
  met-most : met ≤ v
  met-most = omega (arith, m.counted, once-length v seen m.once m.low)

  -- the outputs are as long as before
  pub length-points : length points ≡ length old
  length-points = ap length m.out ∙ length_over (parts_of p seen) old (omega (arith, length-parts p seen, met-most, m.counted, m.long))

  module _ (x : ℕ) (x-low : x < v) where
    -- a point with a mark has been met
    met-old : (mark v f w x ≡ 0 → ⊥) → has seen x ≡ true
    met-old marked = by-test (has seen x) (λ e. e) (λ e. absurd (marked (m.marks x x-low ∙ rw e)))

    -- a point with no mark has not been met
    met-new : mark v f w x ≡ 0 → has seen x ≡ false
    met-new unmarked =
        by-test (has seen x)
        (λ e. let one_more : mark v f w x ≡ place_in seen x + 1 = m.marks x x-low ∙ rw e in absurd (omega arith))
        (λ e. e)

    -- a new point has room
    new-room : mark v f w x ≡ 0 → met < v
    new-room unmarked =
        let fresh = met-new unmarked in
        let more : length (noted seen x) ≤ v =
        once-length v (noted seen x) (once-noted seen x m.once) (noted-every (λ y. ltb y v) seen x m.low (lt-ltb x v x-low)) in
        omega (arith, m.counted, ap length (new-at-end seen x fresh), length-append seen (x ∷ []))

    -- ---- a point that has been met

    -- its number is its mark less 1
    old-number : (kept : ℕ) → kept ≡ mark v f w x → (kept ≡ 0 → ⊥) → kept - 1 ≡ place_in (noted seen x) x
    old-number kept read marked =
        let there = met-old (λ e. marked (read ∙ e)) in
        let one_more : mark v f w x ≡ place_in seen x + 1 = m.marks x x-low ∙ rw there in
        omega (arith, place-noted seen x x there)

    -- nothing changes
    old-met : (mark v f w x ≡ 0 → ⊥) → Met v f p old (noted seen x) w points met
    old-met marked = rw (met-old marked) m

    -- ---- a new point

    -- its mark is its number plus 1, and no other mark changes
    new-marks : mark v f w x ≡ 0 → stamps_from v f ≤ length w → (y : ℕ) → y < v →
        mark v f (set w (marks_from v f + x) (met + 1)) y ≡ cond (has (noted seen x) y) (place_in (noted seen x) y + 1) 0
    new-marks unmarked long y y-low =
        by-test (eqb y x)
        (λ e. rw (eqb-true y x e) (get_or-set_same w (marks_from v f + x) (met + 1) 0 (omega arith)
        ∙ rw (noted-has seen x) (omega (arith, m.counted, place-new seen x (met-new unmarked)))))
        (λ e. get_or-set_other w (marks_from v f + x) (marks_from v f + y) (met + 1) 0 (λ same. eqb-false y x e (omega arith))
        ∙ m.marks y y-low
        ∙ rw (has-noted seen x y, e, or-false)
        (by-test (has seen y) (λ there. rw (there, place-noted seen x y there)) (λ none. rw none)))

    -- its parts stand after those of the points before
    new-out : mark v f w x ≡ 0 →
        parts_put points met (point_at p x) ≡ overlaid (parts_of p (noted seen x)) old
    unfolding parts_of
    new-out unmarked =
        ap (λ (l : List Float). parts_put l met (point_at p x)) m.out
        ∙ over-three (parts_of p seen) old (get_or p (3 * x) nan) (get_or p (3 * x + 1) nan) (get_or p (3 * x + 2) nan) (3 * met)
        (omega (arith, length-parts p seen, m.counted)) (omega (arith, new-room unmarked, m.long))
        ∙ ap (λ (l : List Float). overlaid l old) (sym (ap (parts_of p) (new-at-end seen x (met-new unmarked)) ∙ parts-append p seen (x ∷ [])))

    -- it is the last of the points met
    new-met : mark v f w x ≡ 0 → stamps_from v f ≤ length w →
        Met v f p old (noted seen x) (set w (marks_from v f + x) (met + 1))
        (parts_put points met (point_at p x)) (met + 1)
    new-met unmarked long = record {
      marks = new-marks unmarked long;
      out = new-out unmarked;
      counted = omega (arith, m.counted, ap length (new-at-end seen x (met-new unmarked)), length-append seen (x ∷ []));
      low = noted-every (λ y. ltb y v) seen x m.low (lt-ltb x v x-low);
      once = once-noted seen x m.once;
      long = m.long;
    }

    -- its number is how many were met before
    new-number : mark v f w x ≡ 0 → met ≡ place_in (noted seen x) x
    new-number unmarked = m.counted ∙ sym (place-new seen x (met-new unmarked))

-- ---- what numbering a point leaves

module _ {v f : ℕ} {p : List Float} {w : List ℕ} {points : List Float} {met : ℕ} (x : ℕ) (x-low : x < v) (kept : ℕ) (read : kept ≡ mark v f w x) where
  -- a point that has been met keeps its number
  pub numbered-old : (kept ≡ 0 → ⊥) → Numbered v f p x w points met w points (record { number = kept - 1; met = met })
  numbered-old marked = record {
    but = but-refl (marks_from v f) (stamps_from v f) w;
    met-then = λ old seen m. old-met m x x-low (λ e. marked (read ∙ e));
    number = λ old seen m. old-number m x x-low kept read marked;
  }

  -- a new point has the next number
  pub numbered-new : {w' : List ℕ} {points' : List Float} → kept ≡ 0 → stamps_from v f ≤ length w →
      w' ≡ set w (marks_from v f + x) (met + 1) → points' ≡ parts_put points met (point_at p x) →
      Numbered v f p x w points met w' points' (record { number = met; met = met + 1 })
  numbered-new none long marked put =
      let unmarked : mark v f w x ≡ 0 = sym read ∙ none in
      rw (marked, put)
      (record {
        but = but-set (marks_from v f) (stamps_from v f) w (marks_from v f + x) (met + 1) (omega arith) (omega arith);
        met-then = λ old seen m. new-met m x x-low unmarked long;
        number = λ old seen m. new-number m x x-low unmarked;
      })

  -- and there is room for it
  pub room-known : kept ≡ 0 → Known v f p w points met → (met < v) × (3 * met + 2 < length points)
  room-known none k =
      let fits : met < v = new-room k.met-now x x-low (sym read ∙ none) in
      (fits, omega (arith, length-points k.met-now, k.met-now.long))

-- some list is still that of the points met
pub known-then : {v f : ℕ} {p : List Float} {x : ℕ} {w w' : List ℕ} {points points' : List Float} {met : ℕ} {r : NewNumber} →
    Known v f p w points met → Numbered v f p x w points met w' points' r → Known v f p w' points' r.met
known-then {x = x} k n = record { old = k.old; seen = noted k.seen x; met-now = n.met-then k.old k.seen k.met-now }

-- and the memory has room still
pub room-then : {v f : ℕ} {p : List Float} {x : ℕ} {w w' : List ℕ} {points points' : List Float} {met : ℕ} {r : NewNumber} →
    Room v f w → Numbered v f p x w points met w' points' r → Room v f w'
room-then room n = record { points_few = room.points_few; faces_few = room.faces_few; long = omega (arith, n.but.same_length, room.long) }
