-- Laying a mesh out comes to the mesh at the start, in the stages' own cells.
-- Assumes nothing.
use Prim.Native.Nat.{ℕ, ◌*◌, ◌≤◌, ◌<◌}
use native.Mathlib.Omega.{arith}
use mathlib.Core.Path.{◌≡◌, ap, ◌∙◌}
use mathlib.Core.List.{List, map}
use mathlib.Core.Bool.{Bool, true}
use lib.Ieee.{Float}
use lib.ListN.{length}
use Rattle.geometry.specs.Quadrics.{zero_quadric}
use Rattle.walk.specs.declared.Face.{Face}
use Rattle.lists.specs.Lists.{below}
use Rattle.placement.specs.Choices.{fixed}
use Rattle.walk.specs.Faces.{proper, faces_of, face_at}
use Rattle.memory.specs.Memory.{Room, live_faces}
use Rattle.mesh.specs.Clauses.Laid.{Laid, Kinded}
use Rattle.lists.proofs.FrameLaws.{but-then, but-widen}
use Rattle.lists.proofs.BelowLaws.{count-below-most, length-each}
use Rattle.memory.specs.Points.{with_points}
use Rattle.meaning.specs.Start.{gathered, start_kind, fixed_count}
use Rattle.mesh.specs.Clauses.Quadrics.{QuadricsAre}
use Rattle.mesh.proofs.QuadricLaws.{points-length, points-rest}
use Rattle.mesh.proofs.StartLaws.{kinded-laid, slots-proper, mesh-laid}
use Rattle.lists.proofs.DropLaws.{rest_more}
use Rattle.walking.specs.Clauses.{Layable, LaidOut}
use Rattle.memory.specs.Layout.{costs_to, places_to}

module _ {v f : ℕ} {points : List Float} {faces : List ℕ} {preserve : Bool} {margin w w₁ w₂ : List ℕ} {p q : List Float} (ready : Layable v f points faces margin w p q)
    (laid : Laid v f faces w w₁) (kinded : Kinded v f preserve margin w₁ w₂) where
  -- what laying the quadrics asks
  pub quadrics-asked : {p₁ : List Float} → p₁ ≡ with_points v points p →
      Room v f w₂ × (((k : ℕ) → k < f → proper v (face_at w₂ k) ≡ true) × ((3 * v ≤ length p₁) × (10 * v ≤ length q)))
  quadrics-asked copied = (
    kinded.tidy.room,
    (
      slots-proper f faces w₂ (kinded-laid laid kinded) v ready.faces_proper,
      (rw (copied, points-length v points p (omega arith) (omega arith)) (omega arith), omega arith),
    ),
  )

  -- what is laid out then
  pub laid_out : {n : ℕ} {p₁ q₁ : List Float} → p₁ ≡ with_points v points p →
      QuadricsAre v (λ x. gathered p₁ x zero_quadric (map (face_at w₂) (below f))) q q₁ →
      n ≡ fixed_count v (live_faces f w₁) preserve margin → LaidOut v f points faces preserve margin w p q w₂ p₁ q₁ n
  laid_out {n} {p₁} {q₁} copied quadrics counted =
      let same : live_faces f w₂ ≡ faces_of f faces = kinded-laid laid kinded in
      record {
        tidy = kinded.tidy;
        within = record {
          but = but-then (but-widen (omega arith) (omega arith) laid.but) (but-widen (omega arith) (omega arith) kinded.but);
          same_length_p = ap length copied ∙ points-length v points p (omega arith) (omega arith);
          same_length_q = quadrics.same_length;
          rest_p = rest_more p₁ p (3 * v) (places_to v f) (omega arith) (rw copied (points-rest v points p (omega arith)));
          rest_q = rest_more q₁ q (10 * v) (costs_to v f) (omega arith) quadrics.rest;
        };
        same_mesh = mesh-laid v f points faces preserve margin ready.faces_proper w₂ p laid kinded (omega arith) copied same quadrics;
        all_live = ap length same ∙ length-each _ f;
        counted = counted ∙ ap (λ (fs : List Face). fixed_count v fs preserve margin) laid.same_faces;
      }

-- at most v points are fixed
pub fixed_few : (v : ℕ) (faces : List Face) (preserve : Bool) (margin : List ℕ) → fixed_count v faces preserve margin ≤ v
unfolding fixed_count
fixed_few v faces preserve margin = count-below-most (λ x. fixed (start_kind v faces preserve margin x)) v
