-- One step of the heap walk: what it does to the queue, and that its answer and the state after it are the plain walk's.
use Rattle.std.specs.Prelude.{ℕ, ◌+◌, ◌≤◌, ◌<◌, ◌≡◌, ◌⊎◌, List, ◌∷◌, ◌++◌, true, cond, length, Float, Option}
use Rattle.placement.specs.declared.pair.Vertex.{Vertex}
use Rattle.walk.specs.declared.Pair.{Pair}
use Rattle.lists.specs.Lists.{every, SameBag}
use Rattle.walk.specs.Walk.{State, StepAnswer, folded, closed, ended, answer, after, SameState}
use Rattle.walk.specs.Sound.{Sound}
use Rattle.memory.specs.Memory.{live_faces}
use Rattle.memory.specs.Points.{mesh_of}
use Rattle.meaning.specs.Arithmetic.{rules_of}
use Rattle.memory.specs.Entries.{stamp}
use Rattle.queue.specs.State.{heap_state}
use Rattle.memory.specs.declared.entries.Entry.{Entry}
use Rattle.queue.specs.Stored.{stamps_of, entries_in, is_old, LeastCurrent, Requeued}
use Rattle.heapwalk.specs.Entries.{new_entries, raises}
use Rattle.heapwalk.specs.Clauses.Entering.{Open}
use Rattle.plainwalk.specs.declared.Stepped.{Stepped}
use Rattle.plainwalk.specs.Steps.{answer_of, StepWithin}

-- What ties the memory to a state of the plain walk: it holds a mesh and a queue, the state is sound, live is the number of live faces, and a stamp
-- has grown at most once for each face that is gone.
pub record Held (v f : ℕ) (w : List ℕ) (p q : List Float) (n live : ℕ) (bound : Float) (s : State Vertex) : Type 0 where
  pub «open» : Open v f w p q n bound
  pub sound : Sound s
  pub counted : live ≡ length (live_faces f w)
  pub young : (x : ℕ) → x < v → stamp v f w x + live ≤ f

-- between steps
abbrev pub HeapHolds : (v f : ℕ) (w : List ℕ) (p q : List Float) (n live : ℕ) (bound : Float) → Type 0
HeapHolds v f w p q n live bound = Held v f w p q n live bound (heap_state v f w p q n)

-- the stamps of a fold's two points are one higher, and the others stay
abbrev pub StampsRaised : (v f : ℕ) (w : List ℕ) (a : StepAnswer) (w' : List ℕ) → Type 0
StampsRaised v f w a w' = (y : ℕ) → y < v → stamp v f w' y ≡ stamp v f w y + cond (raises a y) 1 0

-- An answer is given and acted on in a state s: the state after it is the plain walk's, the open pairs in any order.
pub record HeapAnswer (v f : ℕ) (s : State Vertex) (w : List ℕ) (p q : List Float) (limit : Option Float) (bound : Float) (a : StepAnswer) (w' : List ℕ)
    (p' q' : List Float) (r : Stepped) : Type 0 where
  pub holds : HeapHolds v f w' p' q' r.«open» r.live bound
  pub within : StepWithin v f w p q w' p' q'
  pub same_answer : answer_of r.step ≡ a
  pub same_state : SameState (heap_state v f w' p' q' r.«open») (after (rules_of limit bound) s a)

-- ---- what a step does to the queue

-- The pair x is answered, above the target: it is that of the least current entry by stored cost, keep, remove, which is taken off. Others go with it, all
-- of them old: those over it, and where old ones are thrown out any. Of those left, old ones may be thrown out, and the others stay as they are stored.
pub record PairTaken (v f : ℕ) (w : List ℕ) (p q : List Float) (n target : ℕ) (limit : Option Float) (bound : Float) (x : Pair) (a : StepAnswer)
    (w' : List ℕ) (p' q' : List Float) (n' : ℕ) : Type 0 where
  pub above : target < length (live_faces f w)
  pub top : Entry
  pub pair_unchanged : top.pair ≡ x
  pub least : LeastCurrent (stamps_of v f w) (entries_in v f w p q n) top
  pub passed : List Entry
  pub passed-old : every (is_old (stamps_of v f w)) passed ≡ true
  pub left : List Entry
  pub taken : SameBag (entries_in v f w p q n) ((top ∷ passed) ++ left)
  pub requeued : Requeued (stamps_of v f w') left (new_entries limit bound (mesh_of v f w' p' q') (stamps_of v f w') a) (entries_in v f w' p' q' n')

-- at the target nothing is done
pub record AtTarget (f : ℕ) (w : List ℕ) (p q : List Float) (n target : ℕ) (w' : List ℕ) (p' q' : List Float) (n' : ℕ) : Type 0 where
  pub few : length (live_faces f w) ≤ target
  pub same_w : w' ≡ w
  pub same_p : p' ≡ p
  pub same_q : q' ≡ q
  pub same_n : n' ≡ n

-- above it every entry was old, and none is left
pub record NoneCurrent (v f : ℕ) (w : List ℕ) (p q : List Float) (n target n' : ℕ) : Type 0 where
  pub above : target < length (live_faces f w)
  pub old : every (is_old (stamps_of v f w)) (entries_in v f w p q n) ≡ true
  pub none : n' ≡ 0

-- by the answer: the end is told at the target or with no current entry, and nowhere else
abbrev pub QueueStep : (v f : ℕ) (w : List ℕ) (p q : List Float) (n target : ℕ) (limit : Option Float) (bound : Float) (w' : List ℕ) (p' q' : List Float) (n' : ℕ) → StepAnswer → Type 0
QueueStep v f w p q n target limit bound w' p' q' n' (folded x) = PairTaken v f w p q n target limit bound x (folded x) w' p' q' n'
QueueStep v f w p q n target limit bound w' p' q' n' (closed x reason) =
    PairTaken v f w p q n target limit bound x (closed x reason) w' p' q' n'
QueueStep v f w p q n target limit bound w' p' q' n' ended = AtTarget f w p q n target w' p' q' n' ⊎ NoneCurrent v f w p q n target n'

-- A step: its answer is the plain walk's, and so is the state after it; and what became of the queue.
pub record HeapStepDone (v f : ℕ) (w : List ℕ) (p q : List Float) (n target : ℕ) (limit : Option Float) (bound : Float) (w' : List ℕ) (p' q' : List Float) (r : Stepped) : Type 0 where
  pub tied : HeapAnswer v f (heap_state v f w p q n) w p q limit bound (answer (rules_of limit bound) target (heap_state v f w p q n)) w' p' q' r
  pub raised : StampsRaised v f w (answer_of r.step) w'
  pub on_queue : QueueStep v f w p q n target limit bound w' p' q' r.«open» (answer_of r.step)
