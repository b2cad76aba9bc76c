-- The plain walk in memory: how it holds a state, and that from the start it is the whole walk.
-- Assumes nothing.
use Prim.Native.Nat.{ℕ, ◌*◌, ◌≤◌}
use native.Mathlib.Nat.{zero-add}
use native.Mathlib.Omega.{arith}
use mathlib.Core.Path.{◌≡◌, refl, sym, ap, ◌∙◌}
use mathlib.Core.List.{List}
use lib.Ieee.{Float}
use lib.ListN.{length}
use Rattle.std.specs.Prelude.{Option}
use Rattle.lists.specs.Lists.{sum, below}
use Rattle.walk.specs.Walk.{started, SameState}
use Rattle.walk.specs.Sound.{Sound}
use Rattle.walk.proofs.SoundLaws.{started-sound}
use Rattle.memory.specs.Memory.{live_faces}
use Rattle.mesh.specs.Clauses.Chains.{Tidy}
use Rattle.mesh.proofs.TidyLaws.{tidy-but}
use Rattle.mesh.proofs.AroundLaws.{live-faces-but, live-proper}
use Rattle.memory.specs.Points.{mesh_of}
use Rattle.meaning.specs.Arithmetic.{rules_of}
use Rattle.openpairs.specs.State.{open_pairs, state_of}
use Rattle.openpairs.specs.Clauses.Changes.{Added}
use Rattle.plainwalk.specs.declared.Stepped.{Stepped}
use Rattle.plainwalk.specs.declared.Walked.{Walked}
use Rattle.plainwalk.specs.Steps.{Holds, StepDone}
use Rattle.plainwalk.specs.Whole.{start_in, WalkedFrom, WalkDone}
use Rattle.walk.proofs.StateLaws.{sound-bag}
use Rattle.plainwalk.specs.Moments.{moment}
use Rattle.plainwalk.proofs.LentLaws.{Holding, Taken, walked_whole}
use Rattle.plainwalk.proofs.MemoryLaws.{state-but, open-few, holds-but, within-but}
use Rattle.memory.proofs.MeshLaws.{mesh-length, mesh-but}

-- ---- the start

-- the plain walk's start from a tidy memory is sound
pub start-sound : {v f : ℕ} {w : List ℕ} (limit : Option Float) (bound : Float) (p q : List Float) → Tidy v f w → Sound (start_in v f w p q limit bound)
unfolding mesh_of
start-sound {v} {f} {w} limit bound p q tidy =
    started-sound (rules_of limit bound) (mesh_of v f w p q) (rw (mesh-length v f w p q) (live-proper v f w tidy.faces_proper))

-- ---- the plain walk as a walk

pub plain-mesh : (v f : ℕ) (w : List ℕ) (p q : List Float) (n : ℕ) → (state_of v f w p q n).mesh ≡ mesh_of v f w p q
unfolding state_of
plain-mesh v f w p q n = refl

-- its state is read off the list of open pairs
abbrev pub plain : (v f : ℕ) → Holding v f
plain v f = record {
  state = λ m. state_of v f m.u32s m.f32s m.f64s m.pairs;
  Held = λ m. Holds v f m.u32s m.f32s m.f64s m.pairs m.live;
  same_mesh = λ m. plain-mesh v f m.u32s m.f32s m.f64s m.pairs;
  tidy = λ m held. held.tidy;
  sound = λ m held. held.sound;
  counted = λ m held. held.counted;
  still_held = λ m w but held. holds-but held but (omega arith);
  still_state = λ m w but held. state-but v f m.pairs m.f32s m.f64s but (omega arith) (open-few held);
}

-- its step is taken as the plain walk's
pub plain_step : {v f : ℕ} {w : List ℕ} {p q : List Float} {n live target : ℕ} {limit : Option Float} {bound : Float} {w' : List ℕ} {p' q' : List Float} {r : Stepped} →
    StepDone v f w p q n target limit bound w' p' q' r → Taken (plain v f) target limit bound (moment w p q n live) (moment w' p' q' r.«open» r.live) r.step
plain_step done = record { holds = done.holds; within = done.within; same_answer = done.same_answer; same_state = done.same_state }

-- ---- from the start

module _ {v f : ℕ} {w w₁ : List ℕ} (p q : List Float) {n : ℕ} (limit : Option Float) (bound : Float) (tidy : Tidy v f w)
    (whole : length (live_faces f w) ≡ f) (points_long : 3 * v ≤ length p) (quadrics_long : 10 * v ≤ length q)
    (add : Added v f w 0 (started (rules_of limit bound) (mesh_of v f w p q)).«open» w₁ n) where
  -- the memory holds the start
  start-state : SameState (state_of v f w₁ p q n) (start_in v f w p q limit bound)
  unfolding state_of started open_pairs below sum
  start-state = record {
    same_mesh = mesh-but v f p q add.but (omega arith);
    same_open = record { sums = λ g. add.sums g ∙ zero-add _ };
  }

  pub start-holds : Holds v f w₁ p q n f
  start-holds = record {
    tidy = tidy-but (omega arith) add.but tidy;
    points_long = points_long;
    quadrics_long = quadrics_long;
    sound = sound-bag start-state (start-sound limit bound p q tidy);
    counted = sym (ap length (live-faces-but f add.but (omega arith)) ∙ whole);
  }

  -- and so the walk from there is the whole walk
  pub walk-done : {target : ℕ} {w' : List ℕ} {p' q' : List Float} {r : Walked} →
      WalkedFrom v f (state_of v f w₁ p q n) w₁ p q target limit bound w' p' q' r → WalkDone v f w p q target limit bound w' p' q' r
  walk-done = walked_whole (plain v f) (moment w₁ p q n f) start-holds start-state (within-but p q add.but (omega arith))
