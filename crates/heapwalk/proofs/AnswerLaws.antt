-- A step's answer: at the end, and of a pair that is off the queue.
-- Assumes nothing.
use Prim.Native.Nat.{ℕ, ◌+◌, ◌≤◌, ◌<◌}
use native.Mathlib.Nat.{add-zero}
use native.Mathlib.Omega.{arith}
use mathlib.Core.Path.{◌≡◌, refl, sym, ap, subst, ◌∙◌}
use mathlib.Core.Logic.{inl, inr}
use mathlib.Core.List.{List, []}
use mathlib.Core.Bool.{cond}
use lib.Dec.{leb}
use lib.Ieee.{Float}
use lib.ListN.{length}
use borrow.Author.Tests.{le-leb}
use Rattle.geometry.specs.declared.Point.{Point}
use Rattle.placement.specs.declared.pair.Vertex.{Vertex}
use Rattle.lists.specs.Lists.{sum, those, without, below}
use Rattle.walk.specs.Faces.{Mesh}
use Rattle.walk.specs.declared.Reason.{Reason}
use Rattle.walk.specs.FoldTest.{fold_test}
use Rattle.walk.specs.Walk.{StepAnswer, closed, ended, told_by, tried, chosen, answer, after, SameState}
use Rattle.walk.specs.Pairs.{pair_of}
use Rattle.walk.proofs.SamePairs.{same_self}
use Rattle.lists.proofs.BagLaws.{bag-refl}
use Rattle.walk.proofs.SoundLaws.{close-sound}
use Rattle.memory.specs.Memory.{live_faces}
use Rattle.lists.specs.Frames.{But}
use Rattle.mesh.proofs.TidyLaws.{tidy-but}
use Rattle.mesh.proofs.AroundLaws.{live-faces-but}
use Rattle.memory.specs.Points.{mesh_of}
use Rattle.meaning.specs.Arithmetic.{rules_of}
use Rattle.memory.specs.Entries.{stamp}
use Rattle.queue.specs.State.{open_in, heap_state}
use Rattle.memory.specs.declared.entries.Entry.{Entry}
use Rattle.queue.specs.Stored.{stamps_of, entries_in, Requeued}
use Rattle.queue.specs.Clauses.Changes.{NoneLeft}
use Rattle.queue.proofs.RequeuedLaws.{requeued-none}
use Rattle.queue.proofs.TakeLaws.{none_open}
use Rattle.heapwalk.specs.Entries.{new_entries, raises}
use Rattle.heapwalk.proofs.QueueFrames.{mesh-stays, entries-past}
use Rattle.plainwalk.specs.declared.Step.TheVariants.{Closed, Ended}
use Rattle.plainwalk.specs.declared.Stepped.{Stepped}
use Rattle.walk.proofs.StateLaws.{same_refl, sound-bag}
use Rattle.plainwalk.specs.Steps.{StepWithin}
use Rattle.plainwalk.proofs.MemoryLaws.{within-refl, within-but}
use Rattle.memory.proofs.MeshLaws.{mesh-but}
use Rattle.heapwalk.specs.Steps.{HeapHolds, QueueStep, HeapStepDone}
use Rattle.heapwalk.specs.Clauses.Trying.{pair_state, PairHolds, PairAnswer}
use Rattle.heapwalk.proofs.MemoryLaws.{answer-before, pair-state-but, within-only}
use Rattle.memory.specs.Layout.{folds_from, near_from, stamps_from}
use Rattle.lists.proofs.CondLaws.{cond_same}
use Rattle.std.specs.Prelude.{⊤, Result, Option}

-- ---- a pair that is off the queue

module _ {v f : ℕ} {w : List ℕ} {p q : List Float} {n live : ℕ} {bound : Float} {keep remove : ℕ} {place : Point}
    (h : PairHolds v f w p q n live bound keep remove place) (limit : Option Float) (reason : Reason) where
  -- closed, it is open no more: what is left is the queue's
  closed-state : SameState (heap_state v f w p q n)
      (after (rules_of limit bound) (pair_state v f w p q n (pair_of keep remove)) (closed (pair_of keep remove) reason))
  unfolding heap_state pair_state after without
  closed-state = record { same_mesh = refl; same_open = rw (same_self (pair_of keep remove)) bag-refl }

  pub closed-done : PairAnswer v f w p q n keep remove limit bound (closed (pair_of keep remove) reason) w p q
      (record { step = Closed (pair_of keep remove) reason; «open» = n; live = live })
  closed-done =
      let x = pair_of keep remove in
      record {
        tied = record {
          holds =
              record {
                «open» = h.held.«open»;
                sound = sound-bag closed-state (close-sound (rules_of limit bound) (pair_state v f w p q n x) h.held.sound x reason);
                counted = h.held.counted;
                young = h.held.young;
              };
          within = within-refl _ v f w p q;
          same_answer = refl;
          same_state = closed-state;
        };
        raised = λ y l. sym (add-zero (stamp v f w y));
        requeued = requeued-none (stamps_of v f w) (entries_in v f w p q n);
      }

-- what the test says decides which answer is given
pub tried-by : (v f : ℕ) (w : List ℕ) (p q : List Float) (n keep remove : ℕ) (limit : Option Float) (bound : Float) {w' : List ℕ} {p' q' : List Float} {r : Stepped}
    {t : Result ⊤ Reason} → fold_test (rules_of limit bound) (mesh_of v f w p q) (pair_of keep remove) ≡ t →
    PairAnswer v f w p q n keep remove limit bound (told_by (pair_of keep remove) t) w' p' q' r →
    PairAnswer v f w p q n keep remove limit bound (tried (rules_of limit bound) (mesh_of v f w p q) (pair_of keep remove)) w' p' q' r
unfolding tried
tried-by v f w p q n keep remove limit bound is done = rw is done

-- what is done after cells of near and far have changed is done to the state as it was
pub tried-before : {v f : ℕ} {w w₁ : List ℕ} {p q : List Float} {n live lo hi : ℕ} {limit : Option Float} {bound : Float} {keep remove : ℕ} {place : Point}
    {w' : List ℕ} {p' q' : List Float} {r : Stepped} → PairHolds v f w p q n live bound keep remove place →
    But lo hi w w₁ → near_from v f ≤ lo → hi ≤ folds_from v f →
    PairAnswer v f w₁ p q n keep remove limit bound (tried (rules_of limit bound) (mesh_of v f w₁ p q) (pair_of keep remove)) w' p' q' r →
    PairAnswer v f w p q n keep remove limit bound (tried (rules_of limit bound) (mesh_of v f w p q) (pair_of keep remove)) w' p' q' r
tried-before {v} {f} {w} {w₁} {p} {q} {n} {limit = limit} {bound = bound} {keep = keep} {remove = remove} {w' = w'} {p' = p'} {q' = q'} {r = r} h but above up done =
    let held = h.held.«open» in
    let x = pair_of keep remove in
    let rules = rules_of limit bound in
    subst (λ (a : StepAnswer). PairAnswer v f w p q n keep remove limit bound a w' p' q' r)
    (ap (λ (m : Mesh Vertex). tried rules m x) (mesh-but v f p q but (omega arith)))
    (record {
      tied = answer-before (within-but p q but (omega arith)) (rw (pair-state-but held but above x) same_refl) refl done.tied;
      raised = λ y l. done.raised y l ∙ ap (λ (k : ℕ). k + cond (raises (tried rules (mesh_of v f w₁ p q) x) y) 1 0) (but.under (stamps_from v f + y) (omega arith));
      requeued =
          subst (λ (es : List Entry). Requeued (stamps_of v f w') es (new_entries limit bound (mesh_of v f w' p' q') (stamps_of v f w') (tried rules (mesh_of v f w₁ p q) x))
          (entries_in v f w' p' q' r.«open»))
          (entries-past but above held) done.requeued;
    })

-- ---- the end

module _ {v f : ℕ} {w : List ℕ} {p q : List Float} {n live : ℕ} {bound : Float} (h : HeapHolds v f w p q n live bound) (target : ℕ) (limit : Option Float) where
  -- where the answer is the end, the state stays
  ended-done : {w' : List ℕ} {p' q' : List Float} {n' : ℕ} → answer (rules_of limit bound) target (heap_state v f w p q n) ≡ ended → HeapHolds v f w' p' q' n' live bound →
      StepWithin v f w p q w' p' q' → SameState (heap_state v f w' p' q' n') (heap_state v f w p q n) → ((y : ℕ) → y < v → stamp v f w' y ≡ stamp v f w y) →
      QueueStep v f w p q n target limit bound w' p' q' n' ended →
      HeapStepDone v f w p q n target limit bound w' p' q' (record { step = Ended; «open» = n'; live = live })
  unfolding after
  ended-done e holds within same stamps on = record {
    tied = record { holds = holds; within = within; same_answer = sym e; same_state = rw e same };
    raised = λ y l. stamps y l ∙ sym (add-zero (stamp v f w y));
    on_queue = on;
  }

  -- at the target
  pub at_target : live ≤ target → HeapStepDone v f w p q n target limit bound w p q (record { step = Ended; «open» = n; live = live })
  unfolding answer heap_state mesh_of
  at_target few =
      ended-done (rw (le-leb (length (live_faces f w)) target (omega (arith, h.counted)))) h (within-refl _ v f w p q) same_refl (λ y l. refl)
      (inl (record { few = omega (arith, h.counted); same_w = refl; same_p = refl; same_q = refl; same_n = refl }))

  -- with no current entry
  module _ {w' : List ℕ} {p' q' : List Float} (gone : NoneLeft v f w p q n w' p' q') where
    none-was : open_in v f w n ≡ []
    none-was = none_open (λ i l. (h.«open».kept i l).named) gone

    none-same : SameState (heap_state v f w' p' q' 0) (heap_state v f w p q n)
    unfolding heap_state open_in below those
    none-same = record {
      same_mesh = mesh-stays v f gone.only.but (omega arith) gone.only.points_but gone.only.quadrics_but;
      same_open = record { sums = λ g. ap (sum g) (sym none-was) };
    }

    none-holds : HeapHolds v f w' p' q' 0 live bound
    none-holds = record {
      «open» =
          record {
            tidy = tidy-but (omega arith) gone.only.but h.«open».tidy;
            queue = gone.queue;
            kept = λ i l. absurd (omega arith);
          };
      sound = sound-bag none-same h.sound;
      counted = h.counted ∙ ap length (sym (live-faces-but f gone.only.but (omega arith)));
      young = λ x l. rw (gone.only.but.under (stamps_from v f + x) (omega arith)) (h.young x l);
    }

    pub none_left : target < live → HeapStepDone v f w p q n target limit bound w' p' q' (record { step = Ended; «open» = 0; live = live })
    unfolding answer chosen heap_state mesh_of
    none_left above =
        ended-done (rw none-was (cond_same (leb (length (live_faces f w)) target) ended)) none-holds (within-only gone.only) none-same
        (λ y l. gone.only.but.under (stamps_from v f + y) (omega arith))
        (inr (record { above = omega (arith, h.counted); old = gone.old; none = refl }))
