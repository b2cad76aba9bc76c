-- The lowest corner with the edge of a lower one, point by point: what is true at each.
-- Assumes nothing.
use Prim.Native.Nat.{ℕ, ◌+◌, ◌*◌, ◌/◌, ◌≤◌, ◌<◌, min}
use native.Mathlib.Omega.{arith}
use mathlib.Core.Path.{◌≡◌, sym, ap, ◌∙◌}
use mathlib.Core.Logic.{◌≢◌}
use mathlib.Core.List.{List}
use lib.Dec.{eqb, leb}
use borrow.Author.Tests.{eqb-true, eqb-false, leb-true, leb-false}
use Rattle.lists.specs.Frames.{But, Written}
use Rattle.lists.proofs.TestLaws.{by-test}
use Rattle.lists.proofs.FrameLaws.{but-refl, but-then, but-widen}
use Rattle.walk.specs.Faces.{proper}
use Rattle.memory.specs.Layout.{folds_from}
use Rattle.sameway.specs.Seen.{seen_from}
use Rattle.memory.specs.Memory.{corner}
use Rattle.memory.proofs.FrameLaws.{face-but}
use Rattle.sameway.proofs.OrderLaws.{in-order-but}
use Rattle.mesh.proofs.FaceCorners.{corner-below}
use Rattle.sameway.specs.Ways.{repeats}
use Rattle.sameway.proofs.RepeatLaws.{repeats-same}
use Rattle.sameway.specs.Clauses.{ahead, end_of, New, Repeated, Ordered, SeenBefore, Looked, Lowest}
use Rattle.sameway.proofs.EdgeLaws.{ahead_within, lowest-face}

-- ---- where the corners stay

module _ (v f : ℕ) (w₀ w : List ℕ) (but : But (seen_from v f) (folds_from v f) w₀ w) where
  corner-same : (c : ℕ) → c < 3 * f → corner w c ≡ corner w₀ c
  corner-same c l = but.under c (omega arith)

  end_same : (c : ℕ) → c < 3 * f → end_of w c ≡ end_of w₀ c
  end_same c l = corner-same (ahead c) (ahead_within f c l)

  -- so does what is asked
  pub still-ordered : Ordered v f w₀ → Ordered v f w
  still-ordered h = record {
    room = omega (arith, h.room);
    faces_proper = λ k l. ap (proper v) (face-but but (omega arith) k l) ∙ h.faces_proper k l;
    in_order = in-order-but (omega arith) but h.in_order;
  }

  -- and whether an edge is new
  new-same : (c : ℕ) → c < 3 * f → New w c → New w₀ c
  new-same c l new d low same =
      new d low (
        corner-same d (omega arith) ∙ same.0 ∙ sym (corner-same c l),
        end_same d (omega arith) ∙ same.1 ∙ sym (end_same c l),
      )

  repeated-same : (c : ℕ) → c < 3 * f → Repeated w c → Repeated w₀ c
  repeated-same c l (d, low, same) = (
    d,
    low,
    (sym (corner-same d (omega arith)) ∙ same.0 ∙ corner-same c l, sym (end_same d (omega arith)) ∙ same.1 ∙ end_same c l),
  )

-- ---- point by point

-- what is true at each turn: of the edges from points below x those of corners below the lowest are new
pub record Lowering (v f : ℕ) (w₀ w : List ℕ) (lowest x : ℕ) : Type 0 where
  pub but : But (seen_from v f) (folds_from v f) w₀ w
  pub seen-before : SeenBefore v f w x
  pub most : lowest ≤ 3 * f
  pub new-before : (c : ℕ) → c < lowest → corner w₀ c < x → New w₀ c
  pub repeated : lowest < 3 * f → Repeated w₀ lowest

-- what was seen is cleared
pub cleared : (v f : ℕ) {from : ℕ} {w₀ w : List ℕ} → from ≡ seen_from v f → Written from v (λ i. 0) w₀ w → But (seen_from v f) (folds_from v f) w₀ w
cleared v f {from} {w₀} {w} is filled =
    let zeros : Written (seen_from v f) v (λ i. 0) w₀ w = rw is at filled in
    but-widen (omega arith) (omega arith) zeros.but

-- so at the start nothing was seen
pub lowest_start : {v f from : ℕ} {w₀ w : List ℕ} → from ≡ seen_from v f → Written from v (λ i. 0) w₀ w → Lowering v f w w (3 * f) 0
lowest_start {v} {f} {from} {w₀} {w} is filled =
    let zeros : Written (seen_from v f) v (λ i. 0) w₀ w = rw is at filled in
    record {
      but = but-refl (seen_from v f) (folds_from v f) w;
      seen-before = λ y l. omega (arith, zeros.cells y l);
      most = omega arith;
      new-before = λ c l below. absurd (omega arith);
      repeated = λ l. absurd (omega arith);
    }

-- the edges from one more point are looked at, and the lesser is kept
pub lowest-turn : {v f r lowest lowest' x : ℕ} {w₀ w w' : List ℕ} → Lowering v f w₀ w lowest x → Looked v f w x w' r →
    lowest' ≡ min lowest r → Lowering v f w₀ w' lowest' (x + 1)
lowest-turn {v} {f} {r} {lowest} {lowest'} {x} {w₀} {w} {w'} h looked lesser = record {
  but = but-then h.but looked.but;
  seen-before = looked.seen-before;
  most = omega (arith, h.most);
  new-before = λ c l low.
      by-test (eqb (corner w₀ c) x)
      (λ t.
      new-same v f w₀ w h.but c (omega (arith, h.most)) (looked.new-before c (omega arith) (corner-same v f w₀ w h.but c (omega (arith, h.most)) ∙ eqb-true (corner w₀ c) x t)))
      (λ t. let apart : corner w₀ c ≢ x = eqb-false (corner w₀ c) x t in h.new-before c (omega arith) (omega arith));
  repeated = λ l.
      by-test (leb lowest r)
      (λ t. let old : lowest' ≡ lowest = omega (arith, lesser, leb-true lowest r t) in rw old (h.repeated (rw old at l)))
      (λ t.
      let found : lowest' ≡ r = omega (arith, lesser, leb-false lowest r t) in
      rw found (repeated-same v f w₀ w h.but r (rw found at l) (looked.repeated (rw found at l))));
}

-- past the last point, of the memory before it was cleared
pub lowest-end : {v f lowest x : ℕ} {w₀ w₁ w : List ℕ} → But (seen_from v f) (folds_from v f) w₀ w₁ → Ordered v f w₀ → Lowering v f w₁ w lowest x → v ≤ x →
    Lowest f w₀ (lowest / 3)
lowest-end {v} {f} {lowest} {x} {w₀} {w₁} but ordered h all =
    let still = still-ordered v f w₀ w₁ but ordered in
    let found =
    lowest-face still lowest h.most
    (λ c l.
    let below : corner w₁ c < v = corner-below v w₁ c (still.faces_proper (c / 3) (omega (arith, h.most))) in
    h.new-before c l (omega arith))
    h.repeated in
    let same : (k : ℕ) → k < f → repeats w₀ k ≡ repeats w₁ k = repeats-same f w₀ w₁ (λ k l. sym (face-but but (omega arith) k l)) in
    record {
      most = found.most;
      none_before = λ k l. same k (omega (arith, found.most)) ∙ found.none_before k l;
      here = λ l. same (lowest / 3) l ∙ found.here l;
    }
