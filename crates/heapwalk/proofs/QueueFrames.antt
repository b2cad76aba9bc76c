-- What the mesh and the queue in memory hang on: where those cells stay, they are as they were.
-- Assumes nothing.
use Prim.Native.Nat.{ℕ, ◌+◌, ◌*◌, ◌≤◌, ◌<◌}
use native.Mathlib.Omega.{arith}
use mathlib.Core.Path.{◌≡◌, refl, ap₂}
use mathlib.Core.List.{List}
use lib.Ieee.{Float}
use Rattle.std.specs.Prelude.{Option}
use Rattle.placement.specs.Pairs.{eligible}
use Rattle.lists.specs.Frames.{But, FloatsBut}
use Rattle.lists.proofs.BelowLaws.{map-same-below}
use Rattle.mesh.proofs.AroundLaws.{live-faces-but}
use Rattle.mesh.proofs.TidyLaws.{tidy-but}
use Rattle.memory.specs.Points.{vertex_at, mesh_of}
use Rattle.memory.proofs.PointLaws.{point-same, quadric-same}
use Rattle.memory.proofs.MeshLaws.{mesh-of-parts, live-numbers-but}
use Rattle.memory.specs.Layout.{kinds_from, marks_from, near_from}
use Rattle.openpairs.specs.Clauses.Waiting.{fits}
use Rattle.queue.specs.State.{open_in}
use Rattle.queue.specs.Stored.{entries_in}
use Rattle.queue.proofs.MovedLaws.{moved-but, queue-moved, entries-moved, kept-moved, open-same}
use Rattle.heapwalk.specs.Clauses.Entering.{Open}

-- ---- the mesh: on the cells below the marks, and on the places and quadrics of its points

module _ (v f : ℕ) {lo hi hi-p hi-q : ℕ} {w w' : List ℕ} {p p' q q' : List Float}
    (but : But lo hi w w') (above : marks_from v f ≤ lo) (points_but : FloatsBut (3 * v) hi-p p p') (quadrics_but : FloatsBut (10 * v) hi-q q q') where
  pub vertex-stays : (x : ℕ) → x < v → vertex_at v f w' p' q' x ≡ vertex_at v f w p q x
  vertex-stays x l =
      rw (
        but.under (kinds_from v f + x) (omega arith),
        point-same p' p x x (λ k m. points_but.under (3 * x + k) (omega arith)),
        quadric-same q' q x x (λ k m. quadrics_but.under (10 * x + k) (omega arith)),
      )

  pub fits-stays : (limit : Option Float) (bound : Float) (x y : ℕ) → x < v → y < v →
      fits v f w' p' q' limit bound x y ≡ fits v f w p q limit bound x y
  unfolding fits
  fits-stays limit bound x y x-in y-in = ap₂ (eligible limit bound) (vertex-stays x x-in) (vertex-stays y y-in)

  pub mesh-stays : mesh_of v f w' p' q' ≡ mesh_of v f w p q
  unfolding mesh_of
  mesh-stays = mesh-of-parts _ _ _ _ _ _ (map-same-below _ _ v vertex-stays) (live-faces-but f but (omega arith)) (live-numbers-but f but (omega arith))

-- ---- what the walk holds: cells past the entries change, those of the lists around a point or those of the folds

module _ {v f lo hi : ℕ} {w w' : List ℕ} {p q : List Float} {n : ℕ} {bound : Float}
    (but : But lo hi w w') (low : near_from v f ≤ lo) (held : Open v f w p q n bound) where
  pub open-past : open_in v f w' n ≡ open_in v f w n
  open-past = open-same (moved-but p q but low) held.queue held.kept

  pub held-past : Open v f w' p q n bound
  held-past = record {
    tidy = tidy-but (omega arith) but held.tidy;
    queue = queue-moved (moved-but p q but low) held.queue but.same_length refl refl;
    kept = kept-moved (moved-but p q but low) held.queue held.kept;
  }

  pub entries-past : entries_in v f w' p q n ≡ entries_in v f w p q n
  entries-past = entries-moved (moved-but p q but low) held.queue
