-- What laying a mesh out and walking it ask and leave.
use Rattle.std.specs.Prelude.{ℕ, ◌*◌, ◌≤◌, ◌≡◌, List, Bool, true, length, Float, Option}
use Rattle.lists.specs.Lists.{every}
use Rattle.walk.specs.Faces.{proper, faces_of}
use Rattle.memory.specs.Layout.{costs_to, places_to, f32s_needed, f64s_needed}
use Rattle.memory.specs.Memory.{Room, live_faces}
use Rattle.memory.specs.Points.{mesh_of}
use Rattle.mesh.specs.Clauses.Chains.{Tidy}
use Rattle.ring.specs.Clauses.Kinds.{NamesPoints}
use Rattle.plainwalk.specs.Steps.{Within}
use Rattle.meaning.specs.declared.Options.{Options}
use Rattle.meaning.specs.Input.{Input, points_in, faces_in, bound_in}
use Rattle.meaning.specs.Start.{fixed_count, start_mesh}
use Rattle.meaning.specs.Outcome.{target_of, last_mesh, folds_walked, closed_walked, fixed_in}
use Rattle.meaning.specs.Call.{listed}
use Rattle.plainwalk.specs.declared.Walked.{Walked}
use Rattle.plainwalk.specs.Whole.{WalkDone}
use Rattle.heapwalk.specs.Chain.{HeapWalked}
use Rattle.placement.specs.declared.Bounds.{Bounds}
use Rattle.units.specs.Units.{unit_bound, unit_of}
use Rattle.walking.specs.declared.Came.{Came}
use Rattle.walking.specs.declared.Engine.{Engine}
use Rattle.walking.specs.declared.Engine.TheVariants.{Heap}

-- sizes within document 01's limits, and work memory with the stated room
pub record Working (v f : ℕ) (u : List ℕ) (p q : List Float) : Type 0 where
  pub u32s : Room v f u
  pub f32s : f32s_needed v f ≤ length p
  pub f64s : f64s_needed v f ≤ length q

-- a mesh that may be laid out: three numbers to a point and to a face, faces with three distinct points, a margin of points, and work memory for them
pub record Layable (v f : ℕ) (points : List Float) (faces margin : List ℕ) (u : List ℕ) (p q : List Float) : Type 0 where
  pub points_by_three : length points ≡ 3 * v
  pub faces_by_three : length faces ≡ 3 * f
  pub faces_proper : every (proper v) (faces_of f faces) ≡ true
  pub margin_named : NamesPoints v margin
  pub working : Working v f u p q

-- a mesh in memory that may be walked
pub record Walkable (v f : ℕ) (u : List ℕ) (p q : List Float) : Type 0 where
  pub tidy : Tidy v f u
  pub all_live : length (live_faces f u) ≡ f
  pub places_fit : places_to v f ≤ length p
  pub costs_fit : costs_to v f ≤ length q

-- the mesh at the start in the work memory, and the number of points that are fixed
pub record LaidOut (v f : ℕ) (points : List Float) (faces : List ℕ) (preserve : Bool) (margin : List ℕ)
    (u : List ℕ) (p q : List Float) (u' : List ℕ) (p' q' : List Float) (n : ℕ) : Type 0 where
  pub tidy : Tidy v f u'
  pub within : Within v f u p q u' p' q'
  pub same_mesh : mesh_of v f u' p' q' ≡ start_mesh v f points faces preserve margin
  pub all_live : length (live_faces f u') ≡ f
  pub counted : n ≡ fixed_count v (faces_of f faces) preserve margin

-- an input as the walk sees it: it looks at no lent buffer, so the room in them is left out
abbrev pub input_walked : List Float → (faces margin : List ℕ) → Options → Input
input_walked points faces margin options =
    record {
      points = points;
      faces = faces;
      margin = margin;
      rooms = record { points = 0; faces = 0; u32s = 0; f32s = 0; f64s = 0 };
      options = options;
    }

-- what bounds the pairs of a walk with these options: their limit, and their unit's bound
abbrev pub bounds_of : Options → Bounds
bounds_of options = record { limit = options.limit; size = unit_bound (unit_of options.unit) }

-- What the walk by an engine has done: by either what the plain walk comes to, and by the heap as a chain of steps on the queue.
pub record WalkedBy (engine : Engine) (v f target : ℕ) (limit : Option Float) (bound : Float) (w : List ℕ) (p q : List Float) (w' : List ℕ) (p' q' : List Float) (r : Walked) : Type 0 where
  pub done : WalkDone v f w p q target limit bound w' p' q' r
  pub chained : engine ≡ Heap → HeapWalked v f target limit bound w p q w' p' q' r

-- a mesh laid out in the work memory and walked from there by an engine
pub record LaidAndWalked (engine : Engine) (i : Input) (u : List ℕ) (p q : List Float) (u' : List ℕ) (p' q' : List Float) (came : Came) : Type 0 where
  pub laid_u32s : List ℕ
  pub laid_f32s : List Float
  pub laid_f64s : List Float
  pub laid : LaidOut (points_in i) (faces_in i) i.points i.faces i.options.preserve i.margin u p q laid_u32s laid_f32s laid_f64s came.fixed
  pub live : ℕ
  pub by_engine : WalkedBy engine (points_in i) (faces_in i) came.target i.options.limit (bound_in i) laid_u32s laid_f32s laid_f64s u' p' q'
      (record { folds = came.folds; closed = came.closed; live = live })

-- an input's last mesh in the work memory, what its walk came to, and its folds listed
pub record MeshWalked (engine : Engine) (i : Input) (u : List ℕ) (p q : List Float) (u' : List ℕ) (p' q' : List Float) (folds folds' : List ℕ) (came : Came) : Type 0 where
  pub walked : LaidAndWalked engine i u p q u' p' q' came
  pub tidy : Tidy (points_in i) (faces_in i) u'
  pub within : Within (points_in i) (faces_in i) u p q u' p' q'
  pub mesh_at_end : mesh_of (points_in i) (faces_in i) u' p' q' ≡ last_mesh i
  pub aim : came.target ≡ target_of i
  pub fixed_counted : came.fixed ≡ fixed_in i
  pub fixed_few : came.fixed ≤ points_in i
  pub folds_made : came.folds ≡ length (folds_walked i)
  pub folds_few : came.folds ≤ faces_in i
  pub closed_counted : came.closed ≡ closed_walked i
  pub folds_listed : folds' ≡ listed (folds_walked i) folds
