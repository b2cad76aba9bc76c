-- What a state in memory hangs on, and a pair of it that is off the queue.
-- Assumes nothing.
use Prim.Native.Nat.{ℕ, ◌+◌, ◌*◌, ◌≤◌, ◌<◌}
use native.Mathlib.Omega.{arith}
use mathlib.Core.Path.{◌≡◌, refl, sym, ap, ap₂, subst, ◌∙◌}
use mathlib.Core.Logic.{◌≢◌}
use mathlib.Core.List.{List}
use lib.Ieee.{Float}
use lib.ListN.{length}
use Rattle.std.specs.Prelude.{Option}
use Rattle.geometry.specs.declared.Point.{Point}
use Rattle.placement.specs.declared.pair.Vertex.{Vertex}
use Rattle.placement.specs.Pairs.{pair_place}
use Rattle.walk.specs.declared.Pair.{Pair}
use Rattle.lists.specs.Lists.{sum}
use Rattle.walk.specs.Faces.{shared}
use Rattle.walk.specs.Walk.{State, StepAnswer, after, SameState}
use Rattle.walk.specs.Pairs.{pair_of}
use Rattle.walk.proofs.SamePairs.{same_self}
use Rattle.walk.proofs.SoundLaws.{is_open_pair, open-differ, open_shared, open-below}
use Rattle.walk.proofs.BagWalk.{after-bag}
use Rattle.memory.specs.Memory.{live_faces}
use Rattle.lists.specs.Frames.{But, FloatsBut}
use Rattle.mesh.proofs.AroundLaws.{live-faces-but}
use Rattle.lists.proofs.FrameLaws.{but-widen}
use Rattle.memory.specs.Entries.{EntriesOnly}
use Rattle.memory.specs.Points.{vertex_at, mesh_of}
use Rattle.meaning.specs.Arithmetic.{rules_of}
use Rattle.lists.proofs.BelowLaws.{each_same}
use Rattle.memory.proofs.MeshLaws.{mesh-length, mesh-of-parts, vertex-but, mesh-but}
use Rattle.queue.specs.State.{open_in}
use Rattle.heapwalk.specs.Clauses.Entering.{Open}
use Rattle.plainwalk.specs.declared.Stepped.{Stepped}
use Rattle.walk.proofs.StateLaws.{same-trans}
use Rattle.plainwalk.specs.Steps.{StepWithin}
use Rattle.plainwalk.proofs.MemoryLaws.{within_then}
use Rattle.heapwalk.specs.Steps.{HeapAnswer}
use Rattle.heapwalk.specs.Clauses.Trying.{pair_state, PairHolds}
use Rattle.heapwalk.proofs.QueueFrames.{open-past, held-past}
use Rattle.memory.specs.Layout.{near_from, stamps_from}

-- ---- floats

-- the mesh: on the floats of its points
pub mesh-floats : (v f : ℕ) (w : List ℕ) {p q p' q' : List Float} {up-p up-q : ℕ} → FloatsBut (3 * v) up-p p p' → FloatsBut (10 * v) up-q q q' →
    mesh_of v f w p' q' ≡ mesh_of v f w p q
unfolding mesh_of
mesh-floats v f w {p} {q} {p'} {q'} points quadrics =
    mesh-of-parts _ _ _ _ _ _
    (each_same (vertex_at v f w p q) (vertex_at v f w p' q') v
    (λ x l. rw (
      points.under (3 * x) (omega arith),
      points.under (3 * x + 1) (omega arith),
      points.under (3 * x + 2) (omega arith),
      quadrics.under (10 * x) (omega arith),
      quadrics.under (10 * x + 1) (omega arith),
      quadrics.under (10 * x + 2) (omega arith),
      quadrics.under (10 * x + 3) (omega arith),
      quadrics.under (10 * x + 4) (omega arith),
      quadrics.under (10 * x + 5) (omega arith),
      quadrics.under (10 * x + 6) (omega arith),
      quadrics.under (10 * x + 7) (omega arith),
      quadrics.under (10 * x + 8) (omega arith),
      quadrics.under (10 * x + 9) (omega arith),
    )))
    refl refl

-- no cell but those of entries changes, so it is within what a step may change
pub within-only : {v f : ℕ} {w w' : List ℕ} {p q p' q' : List Float} → EntriesOnly v f w p q w' p' q' → StepWithin v f w p q w' p' q'
within-only only = record {
  but = but-widen (omega arith) (omega arith) only.but;
  same_length_p = only.points_but.same_length;
  same_length_q = only.quadrics_but.same_length;
  rest_p = only.points_but.rest;
  rest_q = only.quadrics_but.rest;
}

-- ---- an answer that is given after a change that leaves the state

pub answer-before : {v f : ℕ} {s t : State Vertex} {w w₁ : List ℕ} {p q p₁ q₁ : List Float} {limit : Option Float} {bound : Float} {a b : StepAnswer}
    {w' : List ℕ} {p' q' : List Float} {r : Stepped} → StepWithin v f w p q w₁ p₁ q₁ → SameState t s → b ≡ a →
    HeapAnswer v f t w₁ p₁ q₁ limit bound b w' p' q' r → HeapAnswer v f s w p q limit bound a w' p' q' r
answer-before {v} {f} {s} {t} {limit = limit} {bound = bound} {a = a} {b = b} within same e done = record {
  holds = done.holds;
  within = within_then within done.within;
  same_answer = done.same_answer ∙ e;
  same_state =
      same-trans done.same_state
      (subst (λ (c : StepAnswer). SameState (after (rules_of limit bound) t b) (after (rules_of limit bound) s c)) e (after-bag (rules_of limit bound) same b));
}

-- ---- a pair that is off the queue

-- the state: on the cells below those of near and far, and on the entries
module _ {v f : ℕ} {w : List ℕ} {p q : List Float} {n lo hi : ℕ} {bound : Float} {w' : List ℕ}
    (before : Open v f w p q n bound) (but : But lo hi w w') (above : near_from v f ≤ lo) where
  pub open-pairs-but : open_in v f w' n ≡ open_in v f w n
  open-pairs-but = open-past but above before

  pub pair-state-but : (x : Pair) → pair_state v f w' p q n x ≡ pair_state v f w p q n x
  unfolding pair_state
  pair-state-but x = rw (mesh-but v f p q but (omega arith), open-pairs-but)

  pub open-but : Open v f w' p q n bound
  open-but = held-past but above before

module _ {v f : ℕ} {w : List ℕ} {p q : List Float} {n live : ℕ} {bound : Float} {keep remove : ℕ} {place : Point}
    (h : PairHolds v f w p q n live bound keep remove place) where
  -- it is open
  pub pair-open : is_open_pair (pair_state v f w p q n (pair_of keep remove)) (pair_of keep remove)
  unfolding pair_state sum
  pair-open = rw (same_self (pair_of keep remove)) (omega arith)

  -- and of two points below v, that some live face holds
  pub pair-points : (keep < v) × (remove < v)
  unfolding pair_state
  pair-points = rw mesh-length at (open-below (pair_state v f w p q n (pair_of keep remove)) h.held.sound (pair_of keep remove) pair-open)

  pub pair-differ : keep ≢ remove
  pair-differ = open-differ (pair_state v f w p q n (pair_of keep remove)) h.held.sound (pair_of keep remove) pair-open

  pub pair-shared : 0 < shared (live_faces f w) keep remove
  unfolding pair_state mesh_of
  pair-shared = open_shared (pair_state v f w p q n (pair_of keep remove)) h.held.sound (pair_of keep remove) pair-open

  -- cells of near and far may change
  pub pair-but : {lo hi : ℕ} {w' : List ℕ} → But lo hi w w' → near_from v f ≤ lo →
      PairHolds v f w' p q n live bound keep remove place
  pair-but {lo} {hi} {w'} but above = record {
    held =
        record {
          «open» = open-but h.held.«open» but above;
          sound = rw (pair-state-but h.held.«open» but above (pair_of keep remove)) h.held.sound;
          counted = h.held.counted ∙ ap length (sym (live-faces-but f but (omega arith)));
          young = λ x l. rw (but.under (stamps_from v f + x) (omega arith)) (h.held.young x l);
        };
    same_place =
        h.same_place
        ∙ sym (ap₂ (pair_place bound)
        (vertex-but v f p q but (omega arith) keep pair-points.0)
        (vertex-but v f p q but (omega arith) remove pair-points.1));
  }
