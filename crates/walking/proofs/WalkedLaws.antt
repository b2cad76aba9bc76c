-- The walk of a mesh that is laid out, from what stands in memory to what document 01 says of the input.
-- Assumes nothing.
use Prim.Native.Nat.{ℕ, ◌*◌, ◌≤◌}
use native.Mathlib.Omega.{arith}
use mathlib.Core.Path.{◌≡◌, sym, ap, ◌∙◌}
use mathlib.Core.List.{List}
use mathlib.Core.Bool.{Bool}
use lib.Ieee.{Float}
use lib.ListN.{length}
use Rattle.std.specs.Prelude.{Option}
use Rattle.walk.specs.declared.Pair.{Pair}
use Rattle.walk.specs.Faces.{faces_of}
use Rattle.memory.specs.Entries.{folds_in}
use Rattle.memory.specs.Points.{mesh_of}
use Rattle.plainwalk.specs.declared.Walked.{Walked}
use Rattle.plainwalk.specs.Whole.{WalkDone}
use Rattle.plainwalk.proofs.Theorems.{plain-walk-fewer}
use Rattle.meaning.specs.Input.{Input, points_in, faces_in, bound_in}
use Rattle.meaning.specs.Outcome.{start_of, target_of, last_mesh, folds_walked, closed_walked}
use Rattle.meaning.specs.Call.{listed}
use Rattle.heapwalk.specs.Chain.{HeapWalked}
use Rattle.heapwalk.proofs.Theorems.{heap-walk-is-the-plain-walk}
use Rattle.walking.specs.declared.Engine.{Engine}
use Rattle.walking.specs.declared.Engine.TheVariants.{Plain}
use Rattle.walking.specs.Clauses.{Working, LaidOut, Walkable, WalkedBy, MeshWalked}
use Rattle.walking.proofs.WithinLaws.{working-within}
use Rattle.walking.proofs.LaidLaws.{fixed_few}
use Rattle.plainwalk.proofs.MemoryLaws.{within_then}

-- ---- from the mesh that is laid out to the last mesh

-- what the walk asks
pub walk-asked : {v f n : ℕ} {points : List Float} {faces : List ℕ} {preserve : Bool} {margin u w : List ℕ} {pu qu p q : List Float} →
    Working v f u pu qu → LaidOut v f points faces preserve margin u pu qu w p q n → Walkable v f w p q
walk-asked room laid =
    let still = working-within room laid.within in
    record { tidy = laid.tidy; all_live = laid.all_live; places_fit = omega arith; costs_fit = omega arith }

-- the room that the plain walk asks is less than the heap walk's
pub plain-room : {v f : ℕ} {w : List ℕ} {p q : List Float} → Walkable v f w p q → (3 * v ≤ length p) × (10 * v ≤ length q)
plain-room asked = (omega arith, omega arith)

-- the plain walk says that it is walked, and the heap walk its chain
module _ {engine : Engine} {v f target : ℕ} {limit : Option Float} {bound : Float} {w w' : List ℕ} {p q p' q' : List Float} {r : Walked} where
  pub by-plain : engine ≡ Plain → WalkDone v f w p q target limit bound w' p' q' r → WalkedBy engine v f target limit bound w p q w' p' q' r
  by-plain told walked = record { done = walked; chained = λ heap. let z : ◌≡◌ {A = ℕ} 0 1 = cc (sym told ∙ heap) in absurd (omega arith) }

  pub by-heap : Walkable v f w p q → HeapWalked v f target limit bound w p q w' p' q' r → WalkedBy engine v f target limit bound w p q w' p' q' r
  by-heap asked walked =
      record { done = heap-walk-is-the-plain-walk target limit bound asked.tidy asked.all_live walked; chained = λ told. walked }

module _ {engine : Engine} (i : Input) {target fixed : ℕ} {u w w' : List ℕ} {pu qu p q p' q' : List Float} {r : Walked} (aim : target ≡ target_of i)
    (laid : LaidOut (points_in i) (faces_in i) i.points i.faces i.options.preserve i.margin u pu qu w p q fixed)
    (walked : WalkedBy engine (points_in i) (faces_in i) target i.options.limit (bound_in i) w p q w' p' q' r) where
  mesh_at_end : mesh_of (points_in i) (faces_in i) w' p' q' ≡ last_mesh i
  unfolding last_mesh start_of
  mesh_at_end = walked.done.same_mesh ∙ rw (laid.same_mesh, aim)

  folds_made : r.folds ≡ length (folds_walked i)
  unfolding folds_walked start_of
  folds_made = walked.done.same_folds ∙ rw (laid.same_mesh, aim)

  -- the pairs closed by reason are the input's
  closed_counted : r.closed ≡ closed_walked i
  unfolding closed_walked start_of
  closed_counted = walked.done.same_closed ∙ rw (laid.same_mesh, aim)

  -- the folds written down are the input's
  folds-are : folds_in (points_in i) (faces_in i) w' r.folds ≡ folds_walked i
  unfolding folds_walked start_of
  folds-are = walked.done.same_list ∙ rw (laid.same_mesh, aim)

  -- and there are at most as many as faces
  pub folds_few : r.folds ≤ faces_in i
  folds_few = omega (arith, plain-walk-fewer laid.tidy walked.done, laid.all_live)

  -- the walk's contract, once they are listed
  pub mesh-walked : (folds : List ℕ) {folds' : List ℕ} → folds' ≡ listed (folds_in (points_in i) (faces_in i) w' r.folds) folds →
      MeshWalked engine i u pu qu w' p' q' folds folds' (record { target = target; fixed = fixed; folds = r.folds; closed = r.closed })
  mesh-walked folds here = record {
    walked = record { laid_u32s = w; laid_f32s = p; laid_f64s = q; laid = laid; live = r.live; by_engine = walked };
    tidy = walked.done.tidy;
    within = within_then laid.within walked.done.within;
    mesh_at_end = mesh_at_end;
    aim = aim;
    fixed_counted = laid.counted;
    fixed_few = rw laid.counted (fixed_few (points_in i) (faces_of (faces_in i) i.faces) i.options.preserve i.margin);
    folds_made = folds_made;
    folds_few = folds_few;
    closed_counted = closed_counted;
    folds_listed = here ∙ ap (λ (made : List Pair). listed made folds) folds-are;
  }
