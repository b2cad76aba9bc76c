-- The first current entry is taken off the queue: its pair is the least open one, so the answer is the plain walk's.
-- Assumes nothing.
use Prim.Native.Nat.{ℕ, ◌+◌, ◌<◌}
use native.Mathlib.Nat.{add_comm}
use native.Mathlib.Omega.{arith}
use mathlib.Core.Path.{◌≡◌, refl, sym, ap, ap₂, subst, ◌∙◌}
use mathlib.Core.List.{List}
use mathlib.Core.Bool.{true, false, not, ◌||◌, cond}
use lib.Dec.{leb, ltb}
use lib.Ieee.{Float}
use lib.ListN.{length}
use borrow.Author.Tests.{le-leb, lt-leb, leb-true, lt-ltb, ltb-true}
use Rattle.placement.specs.declared.pair.Vertex.{Vertex}
use Rattle.placement.specs.Pairs.{pair_place}
use Rattle.walk.specs.declared.Reason.{Reason}
use Rattle.walk.specs.declared.Pair.{Pair}
use Rattle.lists.specs.Lists.{sum, count, below}
use Rattle.walk.specs.Pairs.{same_pair, order}
use Rattle.walk.specs.Faces.{Rules, Mesh}
use Rattle.std.specs.Prelude.{⊤, Result, Ok, Err}
use Rattle.walk.specs.FoldTest.{fold_test}
use Rattle.walk.specs.Walk.{StepAnswer, told_by, tried, answer, SameState}
use Rattle.lists.proofs.BelowLaws.{all-below}
use Rattle.lists.proofs.EveryLaws.{some-count, every-kept}
use Rattle.walk.proofs.SamePairs.{same_self}
use Rattle.walk.proofs.LeastLaws.{not_above, IsLeast, chosen_is}
use Rattle.walk.proofs.BagWalk.{sound-fitting}
use Rattle.walk.proofs.StateLaws.{sound-bag}
use Rattle.memory.specs.Memory.{live_faces}
use Rattle.memory.specs.Points.{mesh_of}
use Rattle.memory.specs.declared.entries.Entry.{Entry}
use Rattle.memory.specs.Entries.{entry_pair, entry_in, EntriesOnly}
use Rattle.memory.specs.Layout.{stamps_from}
use Rattle.memory.proofs.MeshLaws.{mesh-length, mesh-point}
use Rattle.mesh.proofs.TidyLaws.{tidy-but}
use Rattle.mesh.proofs.AroundLaws.{live-faces-but}
use Rattle.meaning.specs.Arithmetic.{rules_of}
use Rattle.openpairs.specs.Clauses.Ranks.{rank}
use Rattle.queue.specs.State.{is_current, open_in, heap_state}
use Rattle.queue.specs.Stored.{stamps_of, entries_in, is_old, entry_rank, Requeued}
use Rattle.std.specs.Prelude.{Option, Some, None}
use Rattle.queue.specs.Clauses.Queued.{QueueNamed, is_present, EntryKept}
use Rattle.queue.specs.Clauses.Changes.{TakenOff, NoneLeft, TookCurrent}
use Rattle.queue.proofs.PresentLaws.{present-old, entries-each, kept-were}
use Rattle.queue.proofs.TakeLaws.{taken-present, taken-sums}
use Rattle.plainwalk.specs.declared.Stepped.{Stepped}
use Rattle.plainwalk.specs.Steps.{answer_of}
use Rattle.heapwalk.specs.Entries.{new_entries, raises}
use Rattle.heapwalk.specs.Steps.{HeapHolds, StampsRaised, PairTaken, QueueStep, HeapStepDone}
use Rattle.heapwalk.specs.Clauses.Trying.{pair_state, PairHolds, PairAnswer}
use Rattle.heapwalk.proofs.QueueFrames.{vertex-stays, mesh-stays}
use Rattle.heapwalk.proofs.MemoryLaws.{answer-before, within-only}

-- what was taken off, by the answer
module _ {v f : ℕ} {w : List ℕ} {p q : List Float} {n : ℕ} (w' : List ℕ) (p' q' : List Float) {r : Option (Entry × ℕ)} where
  pub took-entry : {top : Entry} {left : ℕ} → r ≡ Some (top, left) → TookCurrent v f w p q n w' p' q' r → TakenOff v f w p q n w' p' q' top left
  took-entry e took = rw e at took

  pub took-none : r ≡ None → TookCurrent v f w p q n w' p' q' r → NoneLeft v f w p q n w' p' q'
  took-none e took = rw e at took

-- a pair that is tried is folded or closed, by the fold test
tried-is : {D : Type 0} (rules : Rules D) (m : Mesh D) (x : Pair) → tried rules m x ≡ told_by x (fold_test rules m x)
unfolding tried
tried-is rules m x = refl

-- either way the step has taken that pair off the queue
queue-step : (v f : ℕ) (w : List ℕ) (p q : List Float) (n target : ℕ) (limit : Option Float) (bound : Float) (w' : List ℕ) (p' q' : List Float) (n' : ℕ) (x : Pair)
    (t : Result ⊤ Reason) {a : StepAnswer} → a ≡ told_by x t → PairTaken v f w p q n target limit bound x a w' p' q' n' →
    QueueStep v f w p q n target limit bound w' p' q' n' a
unfolding told_by
queue-step v f w p q n target limit bound w' p' q' n' x (Ok _) e taken =
    subst (λ (a : StepAnswer). QueueStep v f w p q n target limit bound w' p' q' n' a) (sym e)
    (subst (λ (a : StepAnswer). PairTaken v f w p q n target limit bound x a w' p' q' n') e taken)
queue-step v f w p q n target limit bound w' p' q' n' x (Err reason) e taken =
    subst (λ (a : StepAnswer). QueueStep v f w p q n target limit bound w' p' q' n' a) (sym e)
    (subst (λ (a : StepAnswer). PairTaken v f w p q n target limit bound x a w' p' q' n') e taken)

module _ {v f : ℕ} {w : List ℕ} {p q : List Float} {n live : ℕ} {bound : Float} (h : HeapHolds v f w p q n live bound) (target : ℕ) (limit : Option Float) where
  -- what a current entry is compared by is its pair's place in the walk's order
  order-entry : (e : Entry) → EntryKept v f w p q bound e → is_present v f w e ≡ true → order (rules_of limit bound) (mesh_of v f w p q) e.pair ≡ entry_rank e
  unfolding entry_rank rank order rules_of
  order-entry e known now =
      let blank = (rules_of limit bound).blank in
      rw (mesh-point v f w p q e.pair.keep blank known.named.0, mesh-point v f w p q e.pair.remove blank known.named.1, known.cost now)

  named : QueueNamed v f w p q n
  named i l = (h.«open».kept i l).named

  module _ {w' : List ℕ} {p' q' : List Float} {top : Entry} {left : ℕ} (taken : TakenOff v f w p q n w' p' q' top left) where
    only : EntriesOnly v f w p q w' p' q'
    only = taken.fewer.only

    same_mesh : mesh_of v f w' p' q' ≡ mesh_of v f w p q
    same_mesh = mesh-stays v f only.but (omega arith) only.points_but only.quadrics_but

    sums : (g : Pair → ℕ) → sum g (open_in v f w' left) + g top.pair ≡ sum g (open_in v f w n)
    sums = taken-sums named taken

    -- what it knows
    top_kept : EntryKept v f w p q bound top
    top_kept =
        let (j, l, same) = taken.was in
        subst (λ (e : Entry). EntryKept v f w p q bound e) (sym same) (h.«open».kept j l)

    -- its pair and those of the rest are the pairs that were open
    top-state : SameState (pair_state v f w' p' q' left top.pair) (heap_state v f w p q n)
    unfolding pair_state heap_state sum
    top-state = record {
      same_mesh = same_mesh;
      same_open = record { sums = λ g. add_comm (g top.pair) (sum g (open_in v f w' left)) ∙ sums g };
    }

    pub top-holds : PairHolds v f w' p' q' left live bound top.pair.keep top.pair.remove top.place
    top-holds = record {
      held =
          record {
            «open» =
                record {
                  tidy = tidy-but (omega arith) only.but h.«open».tidy;
                  queue = taken.fewer.queue;
                  kept = kept-were only taken.fewer.were bound h.«open».kept;
                };
            sound = sound-bag top-state h.sound;
            counted = h.counted ∙ ap length (sym (live-faces-but f only.but (omega arith)));
            young = λ x l. rw (only.but.under (stamps_from v f + x) (omega arith)) (h.young x l);
          };
      same_place =
          top_kept.place (taken-present named taken)
          ∙ sym (ap₂ (pair_place bound)
          (vertex-stays v f only.but (omega arith) only.points_but only.quadrics_but top.pair.keep top_kept.named.0)
          (vertex-stays v f only.but (omega arith) only.points_but only.quadrics_but top.pair.remove top_kept.named.1));
    }

    -- no open pair comes before it
    not-above : (i : ℕ) → i < n → is_current v f w i ≡ true → not_above (rules_of limit bound) (mesh_of v f w p q) top.pair (entry_pair v f w i) ≡ true
    not-above i l now =
        let e = entry_in v f w p q i in
        let m = mesh_of v f w p q in
        let known = h.«open».kept i l in
        let there = entries-each v f w p q n (λ e. is_old (stamps_of v f w) e || leb (entry_rank top) (entry_rank e)) taken.least.least i l in
        let fresh : is_old (stamps_of v f w) e ≡ false = present-old v f w e known.named ∙ ap not now in
        let low = leb-true (entry_rank top) (entry_rank e) (rw fresh at there) in
        le-leb (order (rules_of limit bound) m top.pair) (order (rules_of limit bound) m e.pair)
        (rw (order-entry top top_kept (taken-present named taken), order-entry e known now) low)

    -- so it is the least of the open pairs
    least-taken : IsLeast (rules_of limit bound) (mesh_of v f w p q) top.pair (open_in v f w n)
    unfolding open_in
    least-taken =
        let x = top.pair in
        let more : count (same_pair x) (open_in v f w' left) + 1 ≡ count (same_pair x) (open_in v f w n) =
        rw (same_self x) at (sums (λ y. cond (same_pair x y) 1 0)) in
        record {
          member = some-count (same_pair x) (open_in v f w n) ∙ lt-ltb 0 (count (same_pair x) (open_in v f w n)) (omega arith);
          lowest =
              every-kept (not_above (rules_of limit bound) (mesh_of v f w p q) x) (entry_pair v f w) (is_current v f w) (λ i. ltb i n)
              (λ i t now. not-above i (ltb-true i n t) now) (below n) (all-below n);
        }

    -- so before the target it is the plain walk's answer that is given
    answer-taken : target < live → answer (rules_of limit bound) target (heap_state v f w p q n) ≡ tried (rules_of limit bound) (mesh_of v f w p q) top.pair
    unfolding answer heap_state mesh_of
    answer-taken above =
        rw (lt-leb (length (live_faces f w)) target (omega (arith, h.counted)))
        (chosen_is (rules_of limit bound) (mesh_of v f w p q) (open_in v f w n)
        (sound-fitting h.sound (omega (arith, mesh-length v f w p q, h.«open».tidy.room))) least-taken)

    -- ---- what became of the queue

    -- the answer is the pair of the least current entry, and those that went with it were old
    pair-taken : target < live → {a : StepAnswer} {w'' : List ℕ} {p'' q'' : List Float} {n'' : ℕ} →
        Requeued (stamps_of v f w'') (entries_in v f w' p' q' left) (new_entries limit bound (mesh_of v f w'' p'' q'') (stamps_of v f w'') a) (entries_in v f w'' p'' q'' n'') →
        PairTaken v f w p q n target limit bound top.pair a w'' p'' q'' n''
    pair-taken above requeued = record {
      above = omega (arith, h.counted);
      top = top;
      pair_unchanged = refl;
      least = taken.least;
      passed = taken.passed;
      passed-old = taken.old;
      left = entries_in v f w' p' q' left;
      taken = taken.fewer.bag;
      requeued = requeued;
    }

    pub taken_step : target < live → {w'' : List ℕ} {p'' q'' : List Float} {r : Stepped} →
        PairAnswer v f w' p' q' left top.pair.keep top.pair.remove limit bound (tried (rules_of limit bound) (mesh_of v f w' p' q') top.pair) w'' p'' q'' r →
        HeapStepDone v f w p q n target limit bound w'' p'' q'' r
    taken_step above {w''} {p''} {q''} {r} done =
        let rules = rules_of limit bound in
        let x = top.pair in
        let same = ap (λ (m : Mesh Vertex). tried rules m x) same_mesh in
        let told : answer_of r.step ≡ tried rules (mesh_of v f w p q) x = done.tied.same_answer ∙ same in
        record {
          tied = answer-before (within-only only) top-state (same ∙ sym (answer-taken above)) done.tied;
          raised =
              subst (λ (a : StepAnswer). StampsRaised v f w a w'') (sym done.tied.same_answer)
              (λ y l. done.raised y l ∙ ap (λ (k : ℕ). k + cond (raises (tried rules (mesh_of v f w' p' q') x) y) 1 0) (only.but.under (stamps_from v f + y) (omega arith)));
          on_queue =
              queue-step v f w p q n target limit bound w'' p'' q'' r.«open» x (fold_test rules (mesh_of v f w p q) x) (told ∙ tried-is rules (mesh_of v f w p q) x)
              (pair-taken above
              (subst (λ (a : StepAnswer). Requeued (stamps_of v f w'') (entries_in v f w' p' q' left) (new_entries limit bound (mesh_of v f w'' p'' q'') (stamps_of v f w'') a)
              (entries_in v f w'' p'' q'' r.«open»))
              (sym done.tied.same_answer) done.requeued));
        }
