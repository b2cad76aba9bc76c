-- From what stands in memory after the walk to the outcome of the input.
-- Assumes nothing.
use Prim.Native.Nat.{ℕ}
use mathlib.Core.Path.{◌≡◌, sym, ap, ap₂, ◌∙◌}
use mathlib.Core.List.{List, []}
use mathlib.Core.Bool.{true, ◌&&◌, cond}
use lib.Dec.{ltb, eqb}
use lib.Ieee.{Float}
use lib.ListN.{length}
use Rattle.lists.proofs.TestLaws.{by-test}
use Rattle.placement.specs.declared.pair.Vertex.{Vertex}
use Rattle.walk.specs.declared.Closings.{Closings}
use Rattle.walk.specs.declared.Face.{Face}
use Rattle.walk.specs.Faces.{Mesh}
use Rattle.walk.specs.Output.{used, renumbered, numbers_of}
use Rattle.memory.specs.Memory.{live_faces}
use Rattle.memory.specs.Points.{mesh_of, parts_of}
use Rattle.std.specs.Prelude.{Ok}
use Rattle.meaning.specs.declared.Task.TheVariants.{Admitted}
use Rattle.meaning.specs.Input.{Input, faces_in}
use Rattle.meaning.specs.Answers.{Verdict, verdict_of}
use Rattle.meaning.specs.Outcome.{rules_in, last_mesh, parts_in, Outcome, outcome_by, outcome}
use Rattle.walking.specs.declared.Came.{Came}
use Rattle.walking.specs.declared.Engine.{Engine}
use Rattle.walking.specs.Clauses.{MeshWalked}
use Rattle.thinning.specs.Clauses.{stuck_outcome, outcome_in}
use Rattle.thinning.proofs.MemoryLaws.{parts-written}

-- ---- from the last mesh to the outcome, which hangs on the target, the fixed points, the folds, the pairs closed, the faces left and the parts of their points

abbrev outcome_from : ℕ → ℕ → ℕ → ℕ → Closings → List Face → List Float → Outcome
outcome_from f target fixed folds closed faces parts =
    cond (eqb folds 0 && ltb target f) (stuck_outcome fixed closed)
    (record {
      answer = record { number = 0; place = 0; points = length (used [] faces); faces = length faces; folds = folds; closed = closed };
      points = parts;
      faces = numbers_of (renumbered faces);
      worked = true;
    })

same_outcome : (f : ℕ) {t t' b b' n n' : ℕ} {c c' : Closings} {fs fs' : List Face} {ps ps' : List Float} →
    t ≡ t' → b ≡ b' → n ≡ n' → c ≡ c' → fs ≡ fs' → ps ≡ ps' → outcome_from f t b n c fs ps ≡ outcome_from f t' b' n' c' fs' ps'
same_outcome f e1 e2 e3 e4 e5 e6 = rw (e1, e2, e3, e4, e5, e6)

-- it works in the memory
pub outcome-worked : (f : ℕ) (came : Came) (u : List ℕ) (p : List Float) → (outcome_in f came u p).worked ≡ true
outcome-worked f came u p = by-test (eqb came.folds 0 && ltb came.target f) (λ t. rw t) (λ t. rw t)

-- the outcome of the mesh in memory is the input's
pub outcome-is : (i : Input) {engine : Engine} {u w : List ℕ} {pu qu p q : List Float} {folds folds' : List ℕ} {came : Came} →
    verdict_of i ≡ Ok Admitted → MeshWalked engine i u pu qu w p q folds folds' came → outcome_in (faces_in i) came w p ≡ outcome i
unfolding mesh_of outcome outcome_by
outcome-is i {w = w} {p = p} {q = q} verdict walked =
    let same : live_faces (faces_in i) w ≡ (last_mesh i).faces = ap (λ (m : Mesh Vertex). m.faces) walked.mesh_at_end in
    let parts : parts_of p (used [] (live_faces (faces_in i) w)) ≡ parts_in (rules_in i) (last_mesh i) (used [] (last_mesh i).faces) =
    parts-written (rules_in i) p q walked.tidy
    ∙ ap₂ (λ (m : Mesh Vertex) (fs : List Face). parts_in (rules_in i) m (used [] fs)) walked.mesh_at_end same in
    same_outcome (faces_in i) walked.aim walked.fixed_counted walked.folds_made walked.closed_counted same parts
    ∙ ap (λ (d : Verdict). outcome_by d i) (sym verdict)
