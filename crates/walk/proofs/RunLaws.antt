-- A run: some steps from a state, each by the machine's answer, with the pairs folded on the way and why others were closed. Its end is the end of the
-- walk.
-- Assumes nothing.
use Prim.Native.Nat.{ℕ, ◌+◌, ◌≤◌, ◌<◌}
use native.Mathlib.Omega.{arith}
use mathlib.Core.Path.{◌≡◌, refl, sym, ap, ap₂, subst, ◌∙◌}
use mathlib.Core.Logic.{◌≢◌}
use mathlib.Core.List.{List, [], ◌++◌}
use lib.ListN.{length}
use Rattle.walk.specs.declared.Pair.{Pair}
use Rattle.walk.specs.declared.Reason.{Reason}
use Rattle.walk.specs.Walk.{Machine, walk, collected, fold_list, reason_list}
use Rattle.walk.proofs.MachineLaws.{step, Ending, Alike, walk-last, collected-last, walk-fewer, walk-closes, walk-over, collected-over}

-- from s₀ some steps have come to a state that passes for s, folded the pairs of a list, and closed others for the reasons of a list
pub record Run {S A : Type 0} (machine : Machine S A) (Same : S → S → Type 0) (s₀ s : S) (folds : List Pair) (reasons : List Reason) : Type 0 where
  pub steps : ℕ
  pub same_state : Same s (walk machine steps s₀)
  pub same_list : folds ≡ fold_list machine steps s₀
  pub same_reasons : reasons ≡ reason_list machine steps s₀

module _ {S A : Type 0} {machine : Machine S A} {Fit : S → Type 0} {Same : S → S → Type 0} {budget size : S → ℕ}
    (alike : Alike machine Fit Same budget size) where
  -- before the first step
  pub run-start : (s : S) → Run machine Same s s [] []
  unfolding walk collected
  run-start s = record { steps = 0; same_state = alike.itself s; same_list = refl; same_reasons = refl }

  module _ {s₀ s : S} {folds : List Pair} {reasons : List Reason} (run : Run machine Same s₀ s folds reasons) where
    -- what a step more tells
    told-last : {X : Type 0} (tells : A → List X) → Fit s → {told : List X} → told ≡ collected machine tells run.steps s₀ →
        told ++ tells (machine.answer s) ≡ collected machine tells (run.steps + 1) s₀
    told-last tells fit same =
        ap₂ (λ told (a : A). told ++ tells a) same (alike.same_answer fit run.same_state) ∙ sym (collected-last machine tells run.steps s₀)

    -- a step more
    pub run-turn : Fit s → {s' : S} → Same s' (step machine s) →
        Run machine Same s₀ s' (folds ++ machine.fold_of (machine.answer s)) (reasons ++ machine.reason_of (machine.answer s))
    run-turn fit same =
        record {
          steps = run.steps + 1;
          same_state = rw (walk-last machine run.steps s₀) (alike.chained same (alike.same_step fit run.same_state));
          same_list = told-last machine.fold_of fit run.same_list;
          same_reasons = told-last machine.reason_of fit run.same_reasons;
        }

    module _ {Good : S → Type 0} (ending : Ending machine Good budget size) (good : Good s₀) where
      -- where its answer is the end, it is the walk on its budget that was walked
      pub run_end : Fit s → machine.answer s ≡ machine.ended →
          Same s (walk machine (budget s₀) s₀) × (folds ≡ fold_list machine (budget s₀) s₀) × (reasons ≡ reason_list machine (budget s₀) s₀)
      run_end fit e =
          let ends = sym (alike.same_answer fit run.same_state) ∙ e in (
            subst (λ (t : S). Same s t) (walk-over ending run.steps s₀ good ends) run.same_state,
            run.same_list ∙ collected-over ending machine.fold_of ending.ended_folds run.steps s₀ good ends,
            run.same_reasons ∙ collected-over ending machine.reason_of ending.ended_reasons run.steps s₀ good ends,
          )

      -- each fold has taken from the size
      pub run-fewer : length folds + size s ≤ size s₀
      run-fewer = omega (arith, ap length run.same_list, alike.same_size run.same_state, walk-fewer ending run.steps s₀ good)

      -- and each pair closed from the budget
      pub run-closes : length reasons + budget s ≤ budget s₀
      run-closes = omega (arith, ap length run.same_reasons, alike.same_budget run.same_state, walk-closes ending run.steps s₀ good)

  -- before the end the budget falls
  pub run-less : {Good : S → Type 0} → Ending machine Good budget size → {s s' : S} → Good s → Same s' (step machine s) → machine.answer s ≢ machine.ended → budget s' < budget s
  run-less ending {s} good same on = rw (alike.same_budget same) (ending.falls s good on)
