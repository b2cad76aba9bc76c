-- The heap walk as a walk: its state is read off the current entries of the queue, and is held where only the cells of the folds change.
-- Assumes nothing.
use Prim.Native.Nat.{ℕ, ◌+◌, ◌≤◌}
use native.Mathlib.Omega.{arith}
use mathlib.Core.Path.{◌≡◌, refl, sym, ap, ◌∙◌}
use mathlib.Core.List.{List}
use lib.Ieee.{Float}
use lib.ListN.{length}
use Rattle.std.specs.Prelude.{Option}
use Rattle.walk.specs.Walk.{started, SameState}
use Rattle.memory.specs.Memory.{live_faces}
use Rattle.lists.specs.Frames.{But}
use Rattle.mesh.specs.Clauses.Chains.{Tidy}
use Rattle.lists.proofs.FrameLaws.{but-widen}
use Rattle.mesh.proofs.AroundLaws.{live-faces-but}
use Rattle.memory.specs.Points.{mesh_of}
use Rattle.meaning.specs.Arithmetic.{rules_of}
use Rattle.memory.proofs.MeshLaws.{mesh-but}
use Rattle.queue.specs.State.{heap_state}
use Rattle.heapwalk.specs.Clauses.Entering.{Open, Started}
use Rattle.heapwalk.proofs.QueueFrames.{mesh-stays, open-past, held-past}
use Rattle.plainwalk.specs.declared.Stepped.{Stepped}
use Rattle.plainwalk.specs.declared.Walked.{Walked}
use Rattle.plainwalk.specs.Steps.{Within}
use Rattle.plainwalk.specs.Whole.{start_in, WalkedFrom, WalkDone}
use Rattle.walk.proofs.StateLaws.{sound-bag}
use Rattle.plainwalk.specs.Moments.{moment}
use Rattle.plainwalk.proofs.LentLaws.{Holding, Taken, walked_whole}
use Rattle.plainwalk.proofs.WalkLaws.{start-sound}
use Rattle.heapwalk.specs.Steps.{HeapHolds, HeapStepDone}
use Rattle.memory.specs.Layout.{folds_from, stamps_from}

module _ {v f lo hi : ℕ} {w w' : List ℕ} {p q : List Float} {n : ℕ} {bound : Float}
    (but : But lo hi w w') (low : folds_from v f ≤ lo) (held : Open v f w p q n bound) where
  pub state-noted : heap_state v f w' p q n ≡ heap_state v f w p q n
  unfolding heap_state
  state-noted = rw (mesh-but v f p q but (omega arith), open-past but (omega arith) held)

-- a state of the walk is held after a fold is written down
pub holds-noted : {v f lo hi : ℕ} {w w' : List ℕ} {p q : List Float} {n live : ℕ} {bound : Float} →
    But lo hi w w' → folds_from v f ≤ lo → HeapHolds v f w p q n live bound → HeapHolds v f w' p q n live bound
holds-noted {v} {f} {w = w} {w'} {p} {q} {n} but low h = record {
  «open» = held-past but (omega arith) h.«open»;
  sound = rw (state-noted but low h.«open») h.sound;
  counted = h.counted ∙ ap length (sym (live-faces-but f but (omega arith)));
  young = λ x l. rw (but.under (stamps_from v f + x) (omega arith)) (h.young x l);
}

-- ---- the heap walk as a walk

pub heap-mesh : (v f : ℕ) (w : List ℕ) (p q : List Float) (n : ℕ) → (heap_state v f w p q n).mesh ≡ mesh_of v f w p q
unfolding heap_state
heap-mesh v f w p q n = refl

-- its state is read off the current entries of the queue
abbrev pub by_heap : (v f : ℕ) → Float → Holding v f
by_heap v f bound = record {
  state = λ m. heap_state v f m.u32s m.f32s m.f64s m.pairs;
  Held = λ m. HeapHolds v f m.u32s m.f32s m.f64s m.pairs m.live bound;
  same_mesh = λ m. heap-mesh v f m.u32s m.f32s m.f64s m.pairs;
  tidy = λ m held. held.«open».tidy;
  sound = λ m held. held.sound;
  counted = λ m held. held.counted;
  still_held = λ m w but held. holds-noted but (omega arith) held;
  still_state = λ m w but held. state-noted but (omega arith) held.«open»;
}

-- its step is taken as the plain walk's
pub heap-step : {v f : ℕ} {w : List ℕ} {p q : List Float} {n live target : ℕ} {limit : Option Float} {bound : Float} {w' : List ℕ} {p' q' : List Float} {r : Stepped} →
    HeapStepDone v f w p q n target limit bound w' p' q' r →
    Taken (by_heap v f bound) target limit bound (moment w p q n live) (moment w' p' q' r.«open» r.live) r.step
heap-step done =
    let tied = done.tied in
    record { holds = tied.holds; within = tied.within; same_answer = tied.same_answer; same_state = tied.same_state }

-- ---- from the start

module _ {v f : ℕ} {w w₁ : List ℕ} {p q p₁ q₁ : List Float} {n : ℕ} (limit : Option Float) (bound : Float) (tidy : Tidy v f w)
    (whole : length (live_faces f w) ≡ f) (start : Started v f w p q limit bound (started (rules_of limit bound) (mesh_of v f w p q)).«open» w₁ p₁ q₁ n) where
  start-state : SameState (heap_state v f w₁ p₁ q₁ n) (start_in v f w p q limit bound)
  unfolding heap_state started
  start-state = record {
    same_mesh = mesh-stays v f start.but (omega arith) start.points_but start.quadrics_but;
    same_open = record { sums = start.sums };
  }

  -- the memory holds the start
  pub start-holds : HeapHolds v f w₁ p₁ q₁ n f bound
  start-holds = record {
    «open» = start.«open»;
    sound = sound-bag start-state (start-sound limit bound p q tidy);
    counted = sym (ap length (live-faces-but f start.but (omega arith)) ∙ whole);
    young = λ x l. rw (start.stamps x l) (omega arith);
  }

  start-within : Within v f w p q w₁ p₁ q₁
  start-within = record {
    but = but-widen (omega arith) (omega arith) start.but;
    same_length_p = start.points_but.same_length;
    same_length_q = start.quadrics_but.same_length;
    rest_p = start.points_but.rest;
    rest_q = start.quadrics_but.rest;
  }

  -- and so the walk from there is the whole walk
  pub walk-done : {target : ℕ} {w' : List ℕ} {p' q' : List Float} {r : Walked} →
      WalkedFrom v f (heap_state v f w₁ p₁ q₁ n) w₁ p₁ q₁ target limit bound w' p' q' r → WalkDone v f w p q target limit bound w' p' q' r
  walk-done = walked_whole (by_heap v f bound) (moment w₁ p₁ q₁ n f) start-holds start-state start-within
