-- Room for three entries a face suffices: before each push of the walk fewer than 3F entries are current, so a full queue that throws its old entries out has
-- room. The pushes are those of the start, from the empty queue, and those after each fold.
-- Assumes nothing.
use Prim.Native.Nat.{ℕ, ◌+◌, ◌*◌, ◌≤◌, ◌<◌}
use native.Mathlib.Omega.{arith}
use mathlib.Core.Path.{◌≡◌, ap}
use mathlib.Core.List.{List, ◌∷◌, ◌++◌}
use lib.Ieee.{Float}
use lib.ListN.{length, length-append}
use Rattle.std.specs.Prelude.{Option}
use Rattle.lists.specs.Lists.{SameBag}
use Rattle.lists.proofs.BagLaws.{bag-length}
use Rattle.walk.specs.declared.Pair.{Pair}
use Rattle.walk.specs.Pairs.{opened}
use Rattle.walk.specs.Walk.{started}
use Rattle.meaning.specs.Arithmetic.{rules_of}
use Rattle.memory.specs.Points.{mesh_of}
use Rattle.memory.specs.declared.entries.Entry.{Entry}
use Rattle.mesh.specs.Clauses.Chains.{Tidy}
use Rattle.openpairs.proofs.StartLaws.{started-few}
use Rattle.std.specs.Prelude.{Ok}
use Rattle.folding.specs.Clauses.Folds.{FoldTried}
use Rattle.walk.proofs.StepLaws.{open-bound}
use Rattle.queue.specs.State.{open_in, heap_state}
use Rattle.queue.specs.Clauses.Changes.{Emptied, TakenOff, ThrownOut}
use Rattle.queue.proofs.ThrowLaws.{thrown-counted}
use Rattle.heapwalk.specs.Clauses.Entering.{Entered}
use Rattle.heapwalk.specs.Steps.{HeapHolds}
use Rattle.heapwalk.proofs.StampLaws.{bumped}
use Rattle.heapwalk.proofs.EnterLaws.{entered-length}
use Rattle.heapwalk.proofs.StartLaws.{open_none}
use Rattle.heapwalk.proofs.TakenLaws.{top-holds}
use Rattle.heapwalk.proofs.TriedLaws.{made-open}

-- in every state that is held the entries are at most three for each input face, and the current ones at most three for each live one
pub three-a-face-hold : {v f : ℕ} {w : List ℕ} {p q : List Float} {n live : ℕ} {bound : Float} → HeapHolds v f w p q n live bound →
    (n ≤ 3 * f) × (length (open_in v f w n) ≤ 3 * live)
unfolding heap_state mesh_of
three-a-face-hold {v} {f} {w} {p} {q} {n} held = (held.«open».queue.few, omega (arith, open-bound (heap_state v f w p q n) held.sound, held.counted))

-- There is room for a push: fewer entries are current than there are places, and a throw-out leaves fewer than there are places.
pub record RoomToPush (v f : ℕ) (w : List ℕ) (p q : List Float) (n : ℕ) : Type 0 where
  pub fewer_current : length (open_in v f w n) < 3 * f
  pub room_thrown : (w' : List ℕ) (p' q' : List Float) (n' : ℕ) → ThrownOut v f w p q n w' p' q' n' → n' < 3 * f

-- where there is room for all pairs of a list, there is room while one of them is to be put in
room-before : {v f : ℕ} {w w' : List ℕ} {p q p' q' : List Float} {n n' : ℕ} {limit : Option Float} {bound : Float} {done : List Pair} (all : List Pair) (next : Pair) (rest : List Pair) →
    length (open_in v f w n) + length all ≤ 3 * f → Entered v f w p q n limit bound done w' p' q' n' → SameBag all (done ++ (next ∷ rest)) → RoomToPush v f w' p' q' n'
room-before {v} {f} {w' = w'} {n' = n'} {done = done} all next rest enough entered same =
    let fewer : length (open_in v f w' n') < 3 * f =
    omega (arith, entered-length entered, bag-length same, length-append done (next ∷ rest)) in
    record { fewer_current = fewer; room_thrown = λ w'' p'' q'' n'' out. omega (arith, thrown-counted out (λ i l. (entered.«open».kept i l).named)) }

-- at the start, after some of its pairs were put into the empty queue
pub three-a-face-suffice-at-the-start : {v f : ℕ} {w w₀ w' : List ℕ} {p q p' q' : List Float} {n' : ℕ} {limit : Option Float} {bound : Float} {done : List Pair}
    (next : Pair) (rest : List Pair) → Tidy v f w → Emptied v f w p q w₀ → Entered v f w₀ p q 0 limit bound done w' p' q' n' →
    SameBag (started (rules_of limit bound) (mesh_of v f w p q)).«open» (done ++ (next ∷ rest)) → RoomToPush v f w' p' q' n'
three-a-face-suffice-at-the-start {v} {f} {w} {w₀} {p = p} {q} {limit = limit} {bound} next rest tidy emptied entered same =
    let all = (started (rules_of limit bound) (mesh_of v f w p q)).«open» in
    room-before all next rest (omega (arith, ap length (open_none v f w₀), started-few tidy p q (rules_of limit bound))) entered same

-- after a fold of the pair that was taken off, once both stamps are raised and some of the pairs that it opens were put in
pub three-a-face-suffice : {v f : ℕ} {w w₁ w₂ w₃ w₄ w' : List ℕ} {p q p₁ q₁ p₂ q₂ p' q' : List Float} {n n' live left gone : ℕ} {top : Entry} {limit : Option Float} {bound : Float} {done : List Pair}
    (next : Pair) (rest : List Pair) → HeapHolds v f w p q n live bound → TakenOff v f w p q n w₁ p₁ q₁ top left →
    FoldTried v f limit bound w₁ p₁ q₁ top.pair.keep top.pair.remove w₂ p₂ q₂ (Ok gone) →
    w₃ ≡ bumped v f w₂ top.pair.keep → w₄ ≡ bumped v f w₃ top.pair.remove →
    Entered v f w₄ p₂ q₂ left limit bound done w' p' q' n' →
    SameBag (opened (rules_of limit bound) (mesh_of v f w₄ p₂ q₂) top.pair.keep) (done ++ (next ∷ rest)) → RoomToPush v f w' p' q' n'
three-a-face-suffice {limit = limit} next rest held taken made one two entered same =
    room-before _ next rest (made-open (top-holds held 0 limit taken) made one two).1 entered same
