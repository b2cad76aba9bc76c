-- What a fold leaves in the memory.
use Rattle.std.specs.Prelude.{ℕ, ◌*◌, ◌≡◌, List, length, drop, Float, Result, Ok, Err, Option}
use Rattle.walk.specs.declared.Reason.{Reason}
use Rattle.walk.specs.Faces.{shared}
use Rattle.walk.specs.FoldTest.{fold_test}
use Rattle.walk.specs.Fold.{folded_faces, left_numbers, folded_mesh}
use Rattle.walk.specs.Pairs.{pair_of}
use Rattle.memory.specs.Memory.{live_faces, live_numbers}
use Rattle.lists.specs.Frames.{But}
use Rattle.mesh.specs.Clauses.Chains.{Tidy}
use Rattle.memory.specs.Points.{mesh_of}
use Rattle.meaning.specs.Arithmetic.{rules_of}
use Rattle.memory.specs.Layout.{around_from, kinds_from, near_from}

-- the faces after the fold: those that hold both are gone, remove's number is keep's in the rest, and each is listed at its points again
pub record FacesFolded (v f : ℕ) (w : List ℕ) (keep remove : ℕ) (w' : List ℕ) (gone : ℕ) : Type 0 where
  pub but : But 0 (kinds_from v f) w w'
  pub tidy : Tidy v f w'
  pub same_faces : live_faces f w' ≡ folded_faces (live_faces f w) (pair_of keep remove)
  pub same_numbers : live_numbers f w' ≡ left_numbers (live_faces f w) (live_numbers f w) (pair_of keep remove)
  pub counted : gone ≡ shared (live_faces f w) keep remove

-- the whole fold: the mesh in memory is the folded mesh
pub record MeshFolded (v f : ℕ) (limit : Option Float) (bound : Float) (w : List ℕ) (p q : List Float) (keep remove : ℕ) (w' : List ℕ) (p' q' : List Float) (gone : ℕ) : Type 0 where
  pub but : But 0 (kinds_from v f) w w'
  pub tidy : Tidy v f w'
  pub same_mesh : mesh_of v f w' p' q' ≡ folded_mesh (rules_of limit bound) (mesh_of v f w p q) (pair_of keep remove)
  pub counted : gone ≡ shared (live_faces f w) keep remove
  pub same_length_p : length p' ≡ length p
  pub same_length_q : length q' ≡ length q
  pub rest_p : drop (3 * v) p' ≡ drop (3 * v) p
  pub rest_q : drop (10 * v) q' ≡ drop (10 * v) q

-- what a fold that was tried came to: made where the fold test allows it, and else every cell as it was, with the test's reason
abbrev pub CameTo : (v f : ℕ) (limit : Option Float) (bound : Float) (w : List ℕ) (p q : List Float) (keep remove : ℕ) (w' : List ℕ) (p' q' : List Float) → Result ℕ Reason → Type 0
CameTo v f limit bound w p q keep remove w' p' q' (Ok gone) =
    (fold_test (rules_of limit bound) (mesh_of v f w p q) (pair_of keep remove) ≡ Ok tt) × MeshFolded v f limit bound w p q keep remove w' p' q' gone
CameTo v f limit bound w p q keep remove w' p' q' (Err reason) =
    (fold_test (rules_of limit bound) (mesh_of v f w p q) (pair_of keep remove) ≡ Err reason) × (w' ≡ w) × (p' ≡ p) × (q' ≡ q)

-- a fold that was tried: the faces around its points are listed, which leaves the mesh, and from there it came to that
pub record FoldTried (v f : ℕ) (limit : Option Float) (bound : Float) (w : List ℕ) (p q : List Float) (keep remove : ℕ) (w' : List ℕ) (p' q' : List Float) (r : Result ℕ Reason) : Type 0 where
  pub listed : List ℕ
  pub but : But (near_from v f) (around_from v f) w listed
  pub came : CameTo v f limit bound listed p q keep remove w' p' q' r
