-- What the plain walk in memory comes to, from what its contract says.
-- Assumes nothing.
use Prim.Native.Nat.{ℕ, ◌+◌, ◌≤◌, ◌<◌}
use native.Mathlib.Nat.{le_refl}
use native.Mathlib.Omega.{arith}
use mathlib.Core.Path.{◌≡◌, sym, ap, ◌∙◌}
use mathlib.Core.List.{List, []}
use lib.Ieee.{Float}
use lib.ListN.{length}
use Rattle.std.specs.Prelude.{Option}
use Rattle.placement.specs.declared.pair.Vertex.{Vertex}
use Rattle.walk.specs.Faces.{Mesh}
use Rattle.walk.specs.Walk.{walk, State, ended, budget, started, answer, plain_machine}
use Rattle.walk.proofs.StepLaws.{ended-open}
use Rattle.walk.proofs.WalkLaws.{walk_ends, walk-fewer}
use Rattle.memory.specs.Memory.{live_faces}
use Rattle.mesh.specs.Clauses.Chains.{Tidy}
use Rattle.memory.specs.Points.{mesh_of}
use Rattle.meaning.specs.Arithmetic.{rules_of}
use Rattle.plainwalk.specs.declared.Walked.{Walked}
use Rattle.plainwalk.specs.Whole.{start_in, WalkDone}
use Rattle.plainwalk.proofs.WalkLaws.{start-sound}
use Rattle.mesh.proofs.AroundLaws.{live-few}

-- the state that the plain walk of the mesh in memory comes to
abbrev pub end_in : ℕ → ℕ → List ℕ → List Float → List Float → ℕ → Option Float → Float → State Vertex
end_in v f w p q target limit bound =
    walk (plain_machine (rules_of limit bound) target) (budget f (start_in v f w p q limit bound)) (start_in v f w p q limit bound)

module _ {v f : ℕ} {w : List ℕ} {p q : List Float} {target : ℕ} {limit : Option Float} {bound : Float} {w' : List ℕ} {p' q' : List Float} {r : Walked}
    (tidy : Tidy v f w) (done : WalkDone v f w p q target limit bound w' p' q' r) where
  -- the walk ends: a further step would do nothing
  pub plain-walk-ends : answer (rules_of limit bound) target (end_in v f w p q target limit bound) ≡ ended
  unfolding started mesh_of
  plain-walk-ends =
      let s = start_in v f w p q limit bound in
      walk_ends (rules_of limit bound) target f (budget f s) s (start-sound limit bound p q tidy) (live-few f w) (le_refl _)

  -- it stops above the target only where no pair is open any more
  pub plain-walk-spent : target < r.live → (end_in v f w p q target limit bound).«open» ≡ []
  unfolding mesh_of
  plain-walk-spent above =
      ended-open (rules_of limit bound) target (end_in v f w p q target limit bound) plain-walk-ends
      (omega (arith, done.counted, ap (λ (m : Mesh Vertex). length m.faces) done.same_mesh))

  -- each fold took at least one face
  pub plain-walk-fewer : r.folds + r.live ≤ length (live_faces f w)
  unfolding started mesh_of
  plain-walk-fewer =
      let s = start_in v f w p q limit bound in
      omega (
        arith,
        walk-fewer (rules_of limit bound) target (budget f s) s (start-sound limit bound p q tidy),
        done.same_folds,
        done.counted,
        ap (λ (m : Mesh Vertex). length m.faces) done.same_mesh,
      )

-- what the contract allows is one outcome: the same mesh, the same number of folds, the same number of faces left
module _ {v f : ℕ} {w : List ℕ} {p q : List Float} {target : ℕ} {limit : Option Float} {bound : Float}
    {w₁ w₂ : List ℕ} {p₁ q₁ p₂ q₂ : List Float} {r₁ r₂ : Walked}
    (one : WalkDone v f w p q target limit bound w₁ p₁ q₁ r₁) (two : WalkDone v f w p q target limit bound w₂ p₂ q₂ r₂) where
  pub plain-walk-one : (mesh_of v f w₁ p₁ q₁ ≡ mesh_of v f w₂ p₂ q₂) × (r₁.folds ≡ r₂.folds) × (r₁.live ≡ r₂.live)
  unfolding mesh_of
  plain-walk-one =
      let same = one.same_mesh ∙ sym two.same_mesh in
      (same, one.same_folds ∙ sym two.same_folds, one.counted ∙ ap (λ (m : Mesh Vertex). length m.faces) same ∙ sym two.counted)
