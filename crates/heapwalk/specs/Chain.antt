-- The whole heap walk: a chain of states that are held, from the started queue to the end, each linked to the next by the step's statement.
use Rattle.std.specs.Prelude.{ℕ, ◌+◌, ◌≡◌, ◌≢◌, List, [], ◌∷◌, ◌++◌, length, Float, Option}
use Rattle.walk.specs.declared.Pair.{Pair}
use Rattle.walk.specs.declared.Reason.{Reason}
use Rattle.walk.specs.Closings.{closings_of}
use Rattle.walk.specs.Walk.{StepAnswer, fold_of, reason_of, ended, started}
use Rattle.memory.specs.Points.{mesh_of}
use Rattle.memory.specs.Entries.{folds_in}
use Rattle.meaning.specs.Arithmetic.{rules_of}
use Rattle.plainwalk.specs.declared.Step.{Step}
use Rattle.plainwalk.specs.declared.Step.TheVariants.{Folded, Closed, Ended}
use Rattle.plainwalk.specs.declared.Walked.{Walked}
use Rattle.plainwalk.specs.Steps.{answer_of}
use Rattle.plainwalk.specs.Moments.{Moment, moment, noted}
use Rattle.heapwalk.specs.Clauses.Entering.{Started}
use Rattle.heapwalk.specs.Steps.{HeapHolds, HeapStepDone}

-- what the answers of steps tell, in order: the folded pairs, and the reasons for which others were closed
unfoldable pub told_in : {X : Type 0} → (StepAnswer → List X) → List Step → List X
told_in tells [] = []
told_in tells (step ∷ steps) = tells (answer_of step) ++ told_in tells steps

abbrev pub folds_told : List Step → List Pair
folds_told = told_in fold_of

abbrev pub reasons_told : List Step → List Reason
reasons_told = told_in reason_of

-- a fold is written down after n others; nothing is written for a pair that is closed
abbrev pub noted_step : ℕ → ℕ → ℕ → Step → Moment → Moment
noted_step v f n (Folded x) m = noted v f n x m
noted_step v f n (Closed x reason) m = m
noted_step v f n Ended m = m

module _ (v f target : ℕ) (limit : Option Float) (bound : Float) where
  -- the memory holds a state of the heap walk
  abbrev pub HeldAt : Moment → Type 0
  HeldAt m = HeapHolds v f m.u32s m.f32s m.f64s m.pairs m.live bound

  -- a step from one moment to the next
  abbrev pub StepAt : Moment → Step → Moment → Type 0
  StepAt m step m' =
      HeapStepDone v f m.u32s m.f32s m.f64s m.pairs target limit bound m'.u32s m'.f32s m'.f64s
      (record { step = step; «open» = m'.pairs; live = m'.live })

  -- A link, after n folds: from a state that is held a step that isn't the end, and its fold written down.
  pub record Link (n : ℕ) (m : Moment) (step : Step) (m' : Moment) : Type 0 where
    pub held : HeldAt m
    pub on : answer_of step ≢ ended
    pub stepped : Moment
    pub done : StepAt m step stepped
    pub written : m' ≡ noted_step v f n step stepped

  -- links one after another
  unfoldable pub Chain : ℕ → Moment → List Step → Moment → Type 0
  Chain n m [] m' = m' ≡ m
  Chain n m (step ∷ steps) m' = (next : Moment) × Link n m step next × Chain (n + length (fold_of (answer_of step))) next steps m'

  -- The walk from a moment: a chain, and from its last state, which is held, the end. The memory is left as that step leaves it, the folds written down are
  -- those told on the way, and so are the reasons counted.
  pub record ChainFrom (m : Moment) (w' : List ℕ) (p' q' : List Float) (r : Walked) : Type 0 where
    pub steps : List Step
    pub last : Moment
    pub chain : Chain 0 m steps last
    pub held : HeldAt last
    pub left : ℕ
    pub end : StepAt last Ended (moment w' p' q' left r.live)
    pub folds-told : folds_in v f w' r.folds ≡ folds_told steps
    pub counted : r.folds ≡ length (folds_told steps)
    pub closed-told : r.closed ≡ closings_of (reasons_told steps)

  -- The heap walk of the mesh that is laid out: a chain from the started queue.
  pub record HeapWalked (w : List ℕ) (p q : List Float) (w' : List ℕ) (p' q' : List Float) (r : Walked) : Type 0 where
    pub first : Moment
    pub all_live : first.live ≡ f
    pub start : Started v f w p q limit bound (started (rules_of limit bound) (mesh_of v f w p q)).«open» first.u32s first.f32s first.f64s first.pairs
    pub chain : ChainFrom first w' p' q' r
