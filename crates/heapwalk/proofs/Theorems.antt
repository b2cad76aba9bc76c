-- Demand 3: the heap walk is the plain walk. From every state on its chain the step answers what the plain walk's step answers, and so the two walks make the
-- same folds in the same order and leave the same mesh. That three entries for each face are room enough is `RoomLaws`.
-- Assumes nothing.
use Prim.Native.Nat.{ℕ}
use mathlib.Core.Path.{◌≡◌, sym, subst, ◌∙◌}
use mathlib.Core.List.{List}
use lib.Ieee.{Float}
use lib.ListN.{length}
use Rattle.std.specs.Prelude.{Option}
use Rattle.walk.specs.Walk.{SameState}
use Rattle.lists.proofs.BagLaws.{bag-sym}
use Rattle.memory.specs.Points.{mesh_of}
use Rattle.meaning.specs.Arithmetic.{rules_of}
use Rattle.openpairs.specs.State.{state_of}
use Rattle.queue.specs.State.{heap_state}
use Rattle.plainwalk.specs.declared.Stepped.{Stepped}
use Rattle.plainwalk.specs.declared.Walked.{Walked}
use Rattle.plainwalk.specs.Steps.{answer_of, StepDone}
use Rattle.memory.specs.Entries.{folds_in}
use Rattle.plainwalk.specs.Whole.{WalkDone}
use Rattle.walk.proofs.StateLaws.{SoundFew, plain-alike, same-trans}
use Rattle.plainwalk.specs.Moments.{moment}
use Rattle.plainwalk.proofs.LentLaws.{points_few}
use Rattle.memory.specs.Memory.{live_faces}
use Rattle.mesh.specs.Clauses.Chains.{Tidy}
use Rattle.heapwalk.proofs.HoldLaws.{by_heap, start-holds, walk-done}
use Rattle.heapwalk.proofs.ChainLaws.{chain-walked}
use Rattle.heapwalk.specs.Chain.{HeldAt, HeapWalked}
use Rattle.heapwalk.specs.Steps.{HeapHolds, HeapStepDone}

-- ---- the step

module _ {v f : ℕ} {w u : List ℕ} {p q a b : List Float} {n m live : ℕ} (target : ℕ) {limit : Option Float} {bound : Float} {w' u' : List ℕ} {p' q' a' b' : List Float} {r s : Stepped}
    (h : HeapHolds v f w p q n live bound) (same : SameState (heap_state v f w p q n) (state_of v f u a b m))
    (heap : HeapStepDone v f w p q n target limit bound w' p' q' r) (plain : StepDone v f u a b m target limit bound u' a' b' s) where
  -- the state is sound, and its points can be numbered
  fit : SoundFew (heap_state v f w p q n)
  fit = (h.sound, points_few (by_heap v f bound) (moment w p q n live) h)

  -- from the same state both steps give the same answer
  pub same_step : answer_of r.step ≡ answer_of s.step
  same_step = heap.tied.same_answer ∙ (plain-alike (rules_of limit bound) target f).same_answer fit same ∙ sym plain.same_answer

  -- and come to the same state
  pub same-state-after : SameState (heap_state v f w' p' q' r.«open») (state_of v f u' a' b' s.«open»)
  same-state-after =
      same-trans heap.tied.same_state
      (same-trans ((plain-alike (rules_of limit bound) target f).same_step fit same)
      (record { same_mesh = sym plain.same_state.same_mesh; same_open = bag-sym plain.same_state.same_open }))

-- ---- the walks

-- the chain of the heap walk is the plain walk
pub heap-walk-is-the-plain-walk : {v f : ℕ} {w : List ℕ} {p q : List Float} (target : ℕ) (limit : Option Float) (bound : Float) {w' : List ℕ} {p' q' : List Float} {r : Walked} →
    Tidy v f w → length (live_faces f w) ≡ f → HeapWalked v f target limit bound w p q w' p' q' r → WalkDone v f w p q target limit bound w' p' q' r
heap-walk-is-the-plain-walk {v} {f} target limit bound tidy whole walked =
    let first = walked.first in
    let held : HeldAt v f target limit bound first =
    subst (λ (live : ℕ). HeapHolds v f first.u32s first.f32s first.f64s first.pairs live bound) (sym walked.all_live)
    (start-holds limit bound tidy whole walked.start) in
    walk-done limit bound tidy whole walked.start (chain-walked v f target limit bound first held walked.chain)

-- whichever walk made them: from the same memory two walks have made the same folds in the same order, and left the same mesh, place by place and bit by bit
module _ {v f : ℕ} {w : List ℕ} {p q : List Float} {target : ℕ} {limit : Option Float} {bound : Float} {w₁ w₂ : List ℕ} {p₁ q₁ p₂ q₂ : List Float} {r₁ r₂ : Walked}
    (one : WalkDone v f w p q target limit bound w₁ p₁ q₁ r₁) (two : WalkDone v f w p q target limit bound w₂ p₂ q₂ r₂) where
  pub same-folds-in-order : folds_in v f w₁ r₁.folds ≡ folds_in v f w₂ r₂.folds
  same-folds-in-order = one.same_list ∙ sym two.same_list

  -- and have closed as many pairs for each reason
  pub same-closings : r₁.closed ≡ r₂.closed
  same-closings = one.same_closed ∙ sym two.same_closed

  pub same-mesh-left : mesh_of v f w₁ p₁ q₁ ≡ mesh_of v f w₂ p₂ q₂
  same-mesh-left = one.same_mesh ∙ sym two.same_mesh
