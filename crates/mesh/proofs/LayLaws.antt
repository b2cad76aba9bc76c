-- What the four steps of laying a mesh out come to.
-- Assumes nothing.
use Prim.Native.Nat.{ℕ, ◌+◌, ◌*◌, ◌/◌, ◌<◌}
use native.Mathlib.Nat.{zero-add}
use native.Mathlib.Omega.{arith}
use mathlib.Core.Path.{◌≡◌, refl, ap, ◌∙◌}
use mathlib.Core.List.{List, map}
use mathlib.Core.Bool.{true}
use lib.ListN.{get_or}
use borrow.Author.Tests.{eq-eqb}
use Rattle.lists.specs.Lists.{every, below}
use Rattle.walk.specs.Faces.{proper, faces_of, face_at}
use Rattle.memory.specs.Memory.{corner, live, first, lives, live_faces, Room}
use Rattle.mesh.specs.Clauses.Chains.{Tidy}
use Rattle.lists.specs.Frames.{Written}
use Rattle.mesh.specs.Clauses.Laying.{Joined}
use Rattle.mesh.specs.Clauses.Laid.{Laid}
use Rattle.lists.proofs.BelowLaws.{every-each, kept_same}
use Rattle.lists.proofs.EveryLaws.{those-all}
use Rattle.lists.proofs.FrameLaws.{but-then, but-widen}
use Rattle.memory.proofs.FrameLaws.{face-but}
use Rattle.mesh.proofs.FaceCorners.{corner-below}
use Rattle.memory.specs.Layout.{firsts_from, lives_from, marks_from}

-- w₁ has the corners, w₂ the flags too, w₃ zeros for first links, kinds and marks, and w₄ the links
module _ (faces : List ℕ) {v f : ℕ} {w w₁ w₂ w₃ : List ℕ} (room : Room v f w) (all_proper : every (proper v) (faces_of f faces) ≡ true)
    (copied : Written 0 (3 * f) (λ i. get_or faces i 0) w w₁) (alive : Written (3 * f) f (λ i. 1) w₁ w₂)
    (cleared : Written (7 * f) (3 * v) (λ i. 0) w₂ w₃) where
  -- each corner is the one that was given
  corner-is : (c : ℕ) → c < 3 * f → corner w₃ c ≡ get_or faces c 0
  corner-is c l = cleared.but.under c (omega arith) ∙ alive.but.under c (omega arith) ∙ (rw zero-add at (copied.cells c l))

  face-is : (k : ℕ) → k < f → face_at w₃ k ≡ record { a = get_or faces (3 * k) 0; b = get_or faces (3 * k + 1) 0; c = get_or faces (3 * k + 2) 0 }
  face-is k l = rw (corner-is (3 * k) (omega arith), corner-is (3 * k + 1) (omega arith), corner-is (3 * k + 2) (omega arith))

  face_proper : (k : ℕ) → k < f → proper v (face_at w₃ k) ≡ true
  face_proper k l = ap (proper v) (face-is k l) ∙ every-each (proper v) _ f all_proper k l

  room-still : Room v f w₃
  room-still = omega (arith, copied.but, alive.but, cleared.but)

  -- what linking the corners asks
  pub joinable : Room v f w₃ × (((c : ℕ) → c < 3 * f → corner w₃ c < v) × ((x : ℕ) → x < v → first f w₃ x ≡ 0))
  joinable =
      (room-still, (λ c l. corner-below v w₃ c (face_proper (c / 3) (omega arith)), λ x l. cleared.cells x (omega arith)))

  module _ {w₄ : List ℕ} (joined : Joined v f w₃ w₄) where
    -- every face is live, the memory is tidy, and the faces are the given ones
    all_live : (k : ℕ) → k < f → lives f w₄ k ≡ true
    all_live k l =
        eq-eqb (live f w₄ k) 1 (joined.but.under (lives_from f + k) (omega arith) ∙ cleared.but.under (lives_from f + k) (omega arith) ∙ alive.cells k l)

    laid-tidy : Tidy v f w₄
    laid-tidy = record {
      room = omega (arith, room-still, joined.but);
      faces_proper = λ k l e. ap (proper v) (face-but joined.but (omega arith) k l) ∙ face_proper k l;
      listed = λ c. true;
      chains = joined.chains;
      live_listed = λ c l e. refl;
      unmarked = λ x l.
          let here : marks_from v f + x ≡ firsts_from f + (2 * v + x) = omega arith in
          joined.but.over (marks_from v f + x) (omega arith) ∙ rw here (cleared.cells (2 * v + x) (omega arith));
    }

    laid-faces : live_faces f w₄ ≡ faces_of f faces
    unfolding live_faces
    laid-faces =
        kept_same (face_at w₄) _ (lives f w₄) (λ k. true) f all_live (λ k l. face-but joined.but (omega arith) k l ∙ face-is k l)
        ∙ ap (map _) (those-all (below f))

    pub laid : Laid v f faces w w₄
    laid = record {
      but =
          but-then (but-widen (omega arith) (omega arith) copied.but)
          (but-then (but-widen (omega arith) (omega arith) alive.but)
          (but-then (but-widen (omega arith) (omega arith) cleared.but) (but-widen (omega arith) (omega arith) joined.but)));
      tidy = laid-tidy;
      same_faces = laid-faces;
    }
