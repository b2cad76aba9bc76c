-- A walk in memory, whatever the machine and however the memory holds its state: what is true at each turn, and that its end is the machine's walk.
-- Assumes nothing.
use Prim.Native.Nat.{ℕ, ◌+◌, ◌≤◌, ◌<◌}
use mathlib.Core.Path.{◌≡◌, sym, subst, ◌∙◌}
use mathlib.Core.Logic.{◌≢◌}
use mathlib.Core.List.{List, [], ◌∷◌, ◌++◌, append-nil}
use lib.ListN.{length}
use Rattle.walk.specs.declared.Pair.{Pair}
use Rattle.walk.specs.declared.Reason.{Reason}
use Rattle.walk.specs.Walk.{Machine, walk, fold_list, reason_list}
use Rattle.walk.proofs.MachineLaws.{step, Ending, Alike, step_stays}
use Rattle.walk.proofs.RunLaws.{Run, run-start, run-turn, run_end, run-fewer, run-closes, run-less}

-- How memories hold the states of a machine, and the folds that are written down in them.
pub record Engine {S A : Type 0} (machine : Machine S A) (M : Type 0) : Type 1 where
  -- the machine's laws
  pub Good : S → Type 0
  pub Fit : S → Type 0
  pub Same : S → S → Type 0
  pub budget : S → ℕ
  pub size : S → ℕ
  pub ending : Ending machine Good budget size
  pub alike : Alike machine Fit Same budget size
  -- the state that a memory stands for, where it holds one, and the first folds that are written down in it
  pub state : M → S
  pub Held : M → Type 0
  pub good : (m : M) → Held m → Good (state m)
  pub fit : (m : M) → Held m → Fit (state m)
  pub written : M → ℕ → List Pair
  -- what a walk may change
  pub Within : M → M → Type 0
  pub within_itself : (m : M) → Within m m
  pub within_then : {m m' m'' : M} → Within m m' → Within m' m'' → Within m m''

module _ {S A M : Type 0} {machine : Machine S A} (e : Engine machine M) where
  -- A step in memory, after n folds, gives the machine's answer and comes to its state, and the folds stay written.
  pub record StepOf (m m' : M) (a : A) (n : ℕ) : Type 0 where
    pub holds : e.Held m'
    pub within : e.Within m m'
    pub same_answer : a ≡ machine.answer (e.state m)
    pub same_state : e.Same (e.state m') (step machine (e.state m))
    pub same_folds : e.written m' n ≡ e.written m n

  -- A fold is written down after n others.
  pub record NoteOf (m m' : M) (x : Pair) (n : ℕ) : Type 0 where
    pub holds : e.Held m'
    pub within : e.Within m m'
    pub same_state : e.state m' ≡ e.state m
    pub one_more : e.written m' (n + 1) ≡ e.written m n ++ (x ∷ [])

  -- After some steps the memory holds the state that the machine comes to in as many, the n folds written down are its folds, and it has closed pairs for
  -- these reasons.
  pub record Going (m₀ m : M) (n : ℕ) (reasons : List Reason) : Type 0 where
    pub holds : e.Held m
    pub within : e.Within m₀ m
    pub run : Run machine e.Same (e.state m₀) (e.state m) (e.written m n) reasons

  -- before the first step
  pub going_start : (m : M) → e.Held m → e.written m 0 ≡ [] → Going m m 0 []
  going_start m held none = record { holds = held; within = e.within_itself m; run = rw none (run-start e.alike (e.state m)) }

module _ {S A M : Type 0} {machine : Machine S A} {e : Engine machine M} {m₀ m : M} {n : ℕ} {reasons : List Reason}
    (start : e.Held m₀) (going : Going e m₀ m n reasons) where
  -- each fold has taken from the size
  pub going-fewer : length (e.written m n) + e.size (e.state m) ≤ e.size (e.state m₀)
  going-fewer = run-fewer e.alike going.run e.ending (e.good m₀ start)

  module _ {m' : M} {a : A} (done : StepOf e m m' a n) where
    -- a step more
    pub step_run : Run machine e.Same (e.state m₀) (e.state m') (e.written m' n ++ machine.fold_of a) (reasons ++ machine.reason_of a)
    step_run =
        rw (done.same_folds, done.same_answer) (run-turn e.alike going.run (e.fit m going.holds) done.same_state)

    -- and the folds, with its own, have taken from the size
    pub step_fewer : length (e.written m' n ++ machine.fold_of a) + e.size (e.state m') ≤ e.size (e.state m₀)
    step_fewer = run-fewer e.alike step_run e.ending (e.good m₀ start)

    -- and the pairs closed, with its own, from the budget
    pub step-closes : length (reasons ++ machine.reason_of a) + e.budget (e.state m') ≤ e.budget (e.state m₀)
    step-closes = run-closes e.alike step_run e.ending (e.good m₀ start)

    -- nothing was folded
    pub turn-closed : machine.fold_of a ≡ [] → Going e m₀ m' n (reasons ++ machine.reason_of a)
    turn-closed none = record {
      holds = done.holds;
      within = e.within_then going.within done.within;
      run = rw (none, append-nil (e.written m' n)) at step_run;
    }

    -- a pair was folded, and is written down
    pub turn-folded : {x : Pair} {m'' : M} → machine.fold_of a ≡ (x ∷ []) → machine.reason_of a ≡ [] → NoteOf e m' m'' x n → Going e m₀ m'' (n + 1) reasons
    turn-folded folds none note = record {
      holds = note.holds;
      within = e.within_then going.within (e.within_then done.within note.within);
      run = rw (note.same_state, note.one_more, sym folds) (rw (none, append-nil reasons) at step_run);
    }

    -- before the end the budget falls
    pub turn-less : a ≢ machine.ended → e.budget (e.state m') < e.budget (e.state m)
    turn-less on = run-less e.alike e.ending (e.good m going.holds) done.same_state (λ d. on (done.same_answer ∙ d))

    -- at the end it is the machine's walk that was walked
    pub going_end : a ≡ machine.ended →
        e.Same (e.state m') (walk machine (e.budget (e.state m₀)) (e.state m₀))
        × (e.written m' n ≡ fold_list machine (e.budget (e.state m₀)) (e.state m₀))
        × (reasons ≡ reason_list machine (e.budget (e.state m₀)) (e.state m₀))
    going_end ends =
        let s = e.state m in
        let answered : machine.answer s ≡ machine.ended = sym done.same_answer ∙ ends in
        let over = run_end e.alike going.run e.ending (e.good m₀ start) (e.fit m going.holds) answered in
        let stays = subst (λ (t : S). e.Same (e.state m') t) (step_stays e.ending s answered) done.same_state in
        (e.alike.chained stays over.0, done.same_folds ∙ over.1, over.2)
