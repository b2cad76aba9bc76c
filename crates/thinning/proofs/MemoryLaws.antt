-- The faces of a tidy memory: how many they are, and that the parts of their points are those of the mesh.
-- Assumes nothing.
use Prim.Native.Nat.{ℕ, ◌≤◌}
use native.Mathlib.Omega.{arith}
use mathlib.Core.Path.{◌≡◌, refl, ◌∙◌}
use mathlib.Core.List.{List, [], ◌∷◌}
use mathlib.Core.Bool.{true}
use mathlib.Mathlib.Data.Bool.Basic.{and_elim_left}
use lib.Dec.{ltb}
use lib.Ieee.{Float}
use lib.ListN.{length}
use mir.Syntax.{w32}
use mir.Val.{Fits}
use borrow.Author.Tests.{ltb-true}
use Rattle.placement.specs.declared.pair.Vertex.{Vertex}
use Rattle.walk.specs.declared.Closings.{Closings}
use Rattle.lists.specs.Lists.{every, those, below}
use Rattle.walk.specs.Faces.{Rules, face_at}
use Rattle.walk.specs.Output.{used}
use Rattle.lists.proofs.EveryLaws.{every-head, every-tail, every-those, every_map}
use Rattle.walk.proofs.RenumberLaws.{corners, used-every, length-used-below}
use Rattle.memory.specs.Memory.{lives, live_faces}
use Rattle.mesh.specs.Clauses.Chains.{Tidy}
use Rattle.lists.proofs.BelowLaws.{all-below}
use Rattle.memory.specs.Points.{mesh_of, parts_of}
use Rattle.memory.proofs.MeshLaws.{mesh-point}
use Rattle.output.specs.declared.Counts.{Counts}
use Rattle.output.specs.Clauses.Written.{MeshWritten}
use Rattle.meaning.specs.Outcome.{parts_in}
use Rattle.thinning.specs.Clauses.{thinned_in, Finished}
use Rattle.mesh.proofs.AroundLaws.{live-few}

module _ {v f : ℕ} {w : List ℕ} (tidy : Tidy v f w) where
  -- the points of the live faces are below v
  live_below : every (corners (λ x. ltb x v)) (live_faces f w) ≡ true
  unfolding live_faces
  live_below =
      every_map (corners (λ x. ltb x v)) (face_at w) (those (lives f w) (below f))
      ∙ every-those (λ k. ltb k f) (lives f w)
      (λ k l live. and_elim_left _ _ (and_elim_left _ _ (and_elim_left _ _ (tidy.faces_proper k (ltb-true k f l) live))))
      (below f) (all-below f)

  -- so are the numbers written, and there are at most v
  used-below : every (λ x. ltb x v) (used [] (live_faces f w)) ≡ true
  unfolding every
  used-below = used-every (λ x. ltb x v) [] (live_faces f w) refl live_below

  used-few : length (used [] (live_faces f w)) ≤ v
  used-few = length-used-below v (live_faces f w) live_below

-- so both numbers fit u32
pub used-fits : {v f n : ℕ} {w : List ℕ} → Tidy v f w → n ≡ length (used [] (live_faces f w)) → Fits w32 n
used-fits tidy counted = record { fits = omega (arith, used-few tidy, tidy.room.points_few) }

pub live-fits : {v f n : ℕ} {w : List ℕ} → Tidy v f w → n ≡ length (live_faces f w) → Fits w32 n
live-fits {f = f} {w = w} tidy counted = record { fits = omega (arith, live-few f w, tidy.room.faces_few) }

-- the parts of points in memory are those of the mesh that it holds
parts_same : (rules : Rules Vertex) (v f : ℕ) (w : List ℕ) (p q : List Float) (xs : List ℕ) →
    every (λ x. ltb x v) xs ≡ true → parts_of p xs ≡ parts_in rules (mesh_of v f w p q) xs
unfolding parts_of parts_in
parts_same rules v f w p q [] all = refl
parts_same rules v f w p q (x ∷ xs) all =
    rw (
      mesh-point v f w p q x rules.blank (ltb-true x v (every-head (λ x. ltb x v) x xs all)),
      parts_same rules v f w p q xs (every-tail (λ x. ltb x v) x xs all),
    )

pub parts-written : (rules : Rules Vertex) {v f : ℕ} {w : List ℕ} (p q : List Float) → Tidy v f w →
    parts_of p (used [] (live_faces f w)) ≡ parts_in rules (mesh_of v f w p q) (used [] (live_faces f w))
parts-written rules {v} {f} {w} p q tidy = parts_same rules v f w p q (used [] (live_faces f w)) (used-below tidy)

-- what was written is the outcome of the mesh in memory
pub written-finished : {v f : ℕ} (folds : ℕ) (closed : Closings) {w w' : List ℕ} {p points points' : List Float} {faces faces' : List ℕ} {r : Counts} →
    MeshWritten v f w p points faces w' points' faces' r →
    Finished v f (thinned_in f folds closed w p) w points faces w' points' faces'
    (record { number = 0; place = 0; points = r.points; faces = r.faces; folds = folds; closed = closed })
written-finished folds closed out =
    record {
      but = out.but;
      answered = rw (out.points_counted, out.faces_counted);
      points_written = out.points_written;
      faces_written = out.faces_written;
    }
