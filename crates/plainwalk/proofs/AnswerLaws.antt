-- A step's answer: at the end, of the least open pair, and of a pair that is closed.
-- Assumes nothing.
use Prim.Native.Nat.{ℕ, ◌+◌, ◌≤◌, ◌<◌}
use native.Mathlib.Omega.{arith}
use mathlib.Core.Path.{◌≡◌, refl, sym, ap, ap₂, subst, ◌∙◌}
use mathlib.Core.List.{List}
use lib.Ieee.{Float}
use lib.Dec.{leb}
use lib.ListN.{length}
use borrow.Author.Tests.{le-leb, lt-leb}
use Rattle.std.specs.Prelude.{Option}
use Rattle.placement.specs.declared.pair.Vertex.{Vertex}
use Rattle.placement.specs.Pairs.{pair_place}
use Rattle.walk.specs.declared.Pair.{Pair}
use Rattle.lists.specs.Lists.{sum, below}
use Rattle.walk.specs.Faces.{Mesh}
use Rattle.walk.specs.declared.Reason.{Reason}
use Rattle.std.specs.Prelude.{Ok, Err}
use Rattle.walk.specs.FoldTest.{fold_test}
use Rattle.walk.specs.Walk.{State, StepAnswer, folded, closed, ended, told_by, tried, chosen, answer, after, SameState}
use Rattle.walk.specs.Pairs.{pair_of}
use Rattle.walk.proofs.SamePairs.{bag-taken-pair}
use Rattle.lists.proofs.BagLaws.{bag-refl}
use Rattle.walk.proofs.LeastLaws.{chosen-by-place}
use Rattle.walk.proofs.SoundLaws.{is_open_pair, close-sound}
use Rattle.memory.specs.Memory.{live_faces}
use Rattle.lists.specs.Frames.{But}
use Rattle.mesh.proofs.TidyLaws.{tidy-but}
use Rattle.mesh.proofs.AroundLaws.{live-faces-but}
use Rattle.memory.specs.Points.{mesh_of}
use Rattle.meaning.specs.Arithmetic.{rules_of}
use Rattle.openpairs.specs.declared.pairs.Least.{Least}
use Rattle.memory.specs.Entries.{pair_at}
use Rattle.openpairs.specs.State.{open_pairs, state_of}
use Rattle.openpairs.specs.Clauses.Changes.{LeastAt, Closed as ClosedAt}
use Rattle.plainwalk.specs.declared.Step.TheVariants.{Closed, Ended}
use Rattle.plainwalk.specs.declared.Stepped.{Stepped}
use Rattle.plainwalk.specs.Steps.{Holds, Found, AnswerDone, PairTried, StepDone}
use Rattle.walk.proofs.StateLaws.{same_refl, sound-bag}
use Rattle.plainwalk.proofs.MemoryLaws.{pair_same, state-but, open_at, open-points, open-few, open-fitting, within-refl, within-but, within_then}
use Rattle.memory.specs.Layout.{folds_from, near_from}
use Rattle.lists.proofs.CondLaws.{cond_same}
use Rattle.memory.proofs.MeshLaws.{vertex-but, mesh-but}

-- ---- the end

module _ {v f : ℕ} {w : List ℕ} {p q : List Float} {n live : ℕ} (h : Holds v f w p q n live) (target : ℕ) (limit : Option Float) (bound : Float) where
  -- where the answer is the end, nothing is done
  ended-done : answer (rules_of limit bound) target (state_of v f w p q n) ≡ ended →
      StepDone v f w p q n target limit bound w p q (record { step = Ended; «open» = n; live = live })
  unfolding after
  ended-done e =
      record { holds = h; within = within-refl _ v f w p q; same_answer = sym e; same_state = rw e same_refl }

  -- at the target, and with no open pair
  pub at_target : live ≤ target → StepDone v f w p q n target limit bound w p q (record { step = Ended; «open» = n; live = live })
  unfolding answer state_of mesh_of
  at_target few = ended-done (rw (le-leb (length (live_faces f w)) target (omega arith)))

  pub none_open : n ≡ 0 → StepDone v f w p q n target limit bound w p q (record { step = Ended; «open» = n; live = live })
  unfolding answer chosen state_of mesh_of open_pairs below
  none_open e = ended-done (rw e (cond_same (leb (length (live_faces f w)) target) ended))

  -- ---- the least open pair

  -- before the target the answer is that of the least open pair
  least-answer : target < live → (r : Least) → LeastAt v f w p q n limit bound r →
      answer (rules_of limit bound) target (state_of v f w p q n) ≡ tried (rules_of limit bound) (mesh_of v f w p q) (pair_of r.fold.keep r.fold.remove)
  unfolding answer state_of mesh_of open_pairs
  least-answer above r least =
      rw (lt-leb (length (live_faces f w)) target (omega arith))
      (chosen-by-place (rules_of limit bound) (mesh_of v f w p q) (pair_at v f w) n r.at (open_pairs v f w n) bag-refl (open-fitting h) least.within
      least.least
      ∙ ap (tried (rules_of limit bound) (mesh_of v f w p q)) least.pair_unchanged)

  -- and so trying that pair is the plain walk's step
  pub least_step : target < live → (r : Least) → LeastAt v f w p q n limit bound r → {w' : List ℕ} {p' q' : List Float} {s : Stepped} →
      PairTried v f w p q n r limit bound w' p' q' s → StepDone v f w p q n target limit bound w' p' q' s
  least_step above r least {w'} {p'} {q'} {s} done =
      subst (λ (a : StepAnswer). AnswerDone v f w p q n limit bound a w' p' q' s) (sym (least-answer above r least)) done

-- ---- a pair that was found

module _ {v f : ℕ} {w : List ℕ} {p q : List Float} {n live : ℕ} {bound : Float} {r : Least} (h : Holds v f w p q n live) (found : Found v f w p q n bound r) where
  -- it is open, and of two points below v
  pub found-open : is_open_pair (state_of v f w p q n) (pair_of r.fold.keep r.fold.remove)
  found-open = subst (is_open_pair (state_of v f w p q n)) found.pair_unchanged (open_at v f w p q n r.at found.within)

  pub found-points : (r.fold.keep < v) × (r.fold.remove < v)
  found-points = open-points h (pair_of r.fold.keep r.fold.remove) found-open

  -- cells of near and far may change
  pub found-but : {lo hi : ℕ} {w' : List ℕ} → But lo hi w w' → near_from v f ≤ lo → Found v f w' p q n bound r
  found-but {lo} {hi} {w'} but above = record {
    within = found.within;
    pair_unchanged = pair_same v f n w w' (open-few h) (λ i l m. but.under i (omega arith)) r.at found.within ∙ found.pair_unchanged;
    place =
        found.place
        ∙ sym (ap₂ (pair_place bound)
        (vertex-but v f p q but (omega arith) r.fold.keep found-points.0)
        (vertex-but v f p q but (omega arith) r.fold.remove found-points.1));
  }

  -- it is closed: the state after that
  closed-state : {w' : List ℕ} {n' : ℕ} → ClosedAt v f w n r.at w' n' → (limit : Option Float) (reason : Reason) →
      SameState (state_of v f w' p q n') (after (rules_of limit bound) (state_of v f w p q n) (closed (pair_of r.fold.keep r.fold.remove) reason))
  unfolding state_of after
  closed-state {w'} {n'} done limit reason = record {
    same_mesh = mesh-but v f p q done.but (omega arith);
    same_open =
        bag-taken-pair (pair_of r.fold.keep r.fold.remove) (open_pairs v f w' n') (open_pairs v f w n)
        (λ g. ap (λ (x : Pair). sum g (open_pairs v f w' n') + g x) (sym found.pair_unchanged) ∙ done.sums g);
  }

  pub closed-done : {w' : List ℕ} {n' : ℕ} → ClosedAt v f w n r.at w' n' → (limit : Option Float) (reason : Reason) →
      AnswerDone v f w p q n limit bound (closed (pair_of r.fold.keep r.fold.remove) reason) w' p q
      (record { step = Closed (pair_of r.fold.keep r.fold.remove) reason; «open» = n'; live = live })
  closed-done {w'} {n'} done limit reason =
      let x = pair_of r.fold.keep r.fold.remove in
      let same : SameState (state_of v f w' p q n') (after (rules_of limit bound) (state_of v f w p q n) (closed x reason)) =
      closed-state done limit reason in
      record {
        holds =
            record {
              tidy = tidy-but (omega arith) done.but h.tidy;
              points_long = h.points_long;
              quadrics_long = h.quadrics_long;
              sound = sound-bag same (close-sound (rules_of limit bound) (state_of v f w p q n) h.sound x reason);
              counted = h.counted ∙ ap length (sym (live-faces-but f done.but (omega arith)));
            };
        within = within-but p q done.but (omega arith);
        same_answer = refl;
        same_state = same;
      }

-- ---- a pair that is tried

module _ (v f : ℕ) (w : List ℕ) (p q : List Float) (n : ℕ) (r : Least) (limit : Option Float) (bound : Float) {w' : List ℕ} {p' q' : List Float} {s : Stepped} where
  -- allowed, it is folded
  pub tried-folded : fold_test (rules_of limit bound) (mesh_of v f w p q) (pair_of r.fold.keep r.fold.remove) ≡ Ok tt →
      AnswerDone v f w p q n limit bound (folded (pair_of r.fold.keep r.fold.remove)) w' p' q' s → PairTried v f w p q n r limit bound w' p' q' s
  unfolding tried told_by
  tried-folded passes done = rw passes done

  -- not allowed, it is closed, and the reason told
  pub tried-closed : {reason : Reason} → fold_test (rules_of limit bound) (mesh_of v f w p q) (pair_of r.fold.keep r.fold.remove) ≡ Err reason →
      AnswerDone v f w p q n limit bound (closed (pair_of r.fold.keep r.fold.remove) reason) w' p' q' s → PairTried v f w p q n r limit bound w' p' q' s
  unfolding tried told_by
  tried-closed fails done = rw fails done

-- what is done after cells of near and far have changed is done to the state as it was
pub tried-before : {v f : ℕ} {w w₁ : List ℕ} {p q : List Float} {n live lo hi : ℕ} (r : Least) {limit : Option Float} {bound : Float}
    {w' : List ℕ} {p' q' : List Float} {s : Stepped} → Holds v f w p q n live → But lo hi w w₁ → near_from v f ≤ lo → hi ≤ folds_from v f →
    PairTried v f w₁ p q n r limit bound w' p' q' s → PairTried v f w p q n r limit bound w' p' q' s
tried-before {v} {f} {w} {w₁} {p} {q} {n} {live} {lo} {hi} r {limit} {bound} {w'} {p'} {q'} {s} h but above up done =
    let x = pair_of r.fold.keep r.fold.remove in
    let same_mesh = mesh-but v f p q but (omega arith) in
    record {
      holds = done.holds;
      within = within_then (within-but p q but up) done.within;
      same_answer = done.same_answer ∙ ap (λ (m : Mesh Vertex). tried (rules_of limit bound) m x) same_mesh;
      same_state =
          subst (λ (m : Mesh Vertex). SameState (state_of v f w' p' q' s.«open») (after (rules_of limit bound) (state_of v f w p q n) (tried (rules_of limit bound) m x)))
          same_mesh
          (subst (λ (t : State Vertex). SameState (state_of v f w' p' q' s.«open») (after (rules_of limit bound) t (tried (rules_of limit bound) (mesh_of v f w₁ p q) x)))
          (state-but v f n p q but above (open-few h)) done.same_state);
    }
