-- The walk of any machine: steps first and then the rest, what stays true, that it ends within its budget, and that what comes after the end changes
-- nothing. Assumes nothing.
use Prim.Native.Nat.{ℕ, zero, suc, ◌+◌, ◌≤◌, ◌<◌}
use mathlib.Core.Path.{◌≡◌, refl, sym, ◌∙◌, ap, ap₂}
use mathlib.Core.Logic.{◌≢◌, ◌⊎◌, ⊎_elim}
use mathlib.Core.List.Memᴰ
use mathlib.Core.List.{List, [], ◌++◌, append_assoc, append-nil, Memᴰ}
use native.Mathlib.Nat.{zero-add, suc-add, le_refl, le_dest}
use native.Mathlib.Omega.{arith}
use lib.ListN.{length, length-append}
use Rattle.walk.specs.Walk.{Machine, walk, collected, fold_list, reason_list}

-- the state after a step
abbrev pub step : {S A : Type 0} → Machine S A → S → S
step machine s = machine.after s (machine.answer s)

-- ---- what the laws ask of a machine

-- A machine whose walk ends. Good states stay good, and each fold takes from their size; a step closes at most one pair; the end changes nothing, folds
-- nothing and closes nothing; before it the budget falls.
pub record Ending {S A : Type 0} (machine : Machine S A) (Good : S → Type 0) (budget size : S → ℕ) : Type 0 where
  pub stays_good : (s : S) → Good s → Good (step machine s)
  pub fewer : (s : S) → Good s → length (machine.fold_of (machine.answer s)) + size (step machine s) ≤ size s
  pub ended_or : (a : A) → (a ≡ machine.ended) ⊎ (a ≢ machine.ended)
  pub ended_same : (s : S) → machine.after s machine.ended ≡ s
  pub ended_folds : machine.fold_of machine.ended ≡ []
  pub ended_reasons : machine.reason_of machine.ended ≡ []
  pub one_reason : (a : A) → length (machine.reason_of a) ≤ 1
  pub falls : (s : S) → Good s → machine.answer s ≢ machine.ended → budget (step machine s) < budget s

-- States that pass for the same: those that fit answer the same and pass for the same after a step, with the same budget and size.
pub record Alike {S A : Type 0} (machine : Machine S A) (Fit : S → Type 0) (Same : S → S → Type 0) (budget size : S → ℕ) : Type 0 where
  pub stays_fit : (s : S) → Fit s → Fit (step machine s)
  pub itself : (s : S) → Same s s
  pub chained : {s t u : S} → Same s t → Same t u → Same s u
  pub same_answer : {s t : S} → Fit s → Same s t → machine.answer s ≡ machine.answer t
  pub same_step : {s t : S} → Fit s → Same s t → Same (step machine s) (step machine t)
  pub same_budget : {s t : S} → Same s t → budget s ≡ budget t
  pub same_size : {s t : S} → Same s t → size s ≡ size t

module _ {S A : Type 0} (machine : Machine S A) where
  -- ---- steps first, then the rest

  -- m steps and then n are m + n
  pub walk-add : (m n : ℕ) (s : S) → walk machine (m + n) s ≡ walk machine n (walk machine m s)
  unfolding walk
  walk-add zero n s = rw zero-add
  walk-add (suc m) n s = rw suc-add (walk-add m n (step machine s))

  -- what m steps tell, and then what n do
  pub collected-add : {X : Type 0} (tells : A → List X) (m n : ℕ) (s : S) →
      collected machine tells (m + n) s ≡ collected machine tells m s ++ collected machine tells n (walk machine m s)
  unfolding walk collected
  collected-add tells zero n s = rw zero-add
  collected-add tells (suc m) n s =
      rw (suc-add, append_assoc) (ap (λ rest. tells (machine.answer s) ++ rest) (collected-add tells m n (step machine s)))

  -- a step more, at the end
  pub walk-last : (n : ℕ) (s : S) → walk machine (n + 1) s ≡ step machine (walk machine n s)
  unfolding walk
  walk-last n s = walk-add n 1 s

  -- and what it tells at the end
  pub collected-last : {X : Type 0} (tells : A → List X) (n : ℕ) (s : S) →
      collected machine tells (n + 1) s ≡ collected machine tells n s ++ tells (machine.answer (walk machine n s))
  unfolding collected
  collected-last tells n s =
      collected-add tells n 1 s ∙ ap (λ last. collected machine tells n s ++ last) (append-nil (tells (machine.answer (walk machine n s))))

  -- what is told on the way was told by the answer of some step
  pub collected-step : {X : Type 0} (tells : A → List X) (n : ℕ) (s : S) (x : X) → Memᴰ x (collected machine tells n s) →
      (k : ℕ) × (k < n) × Memᴰ x (tells (machine.answer (walk machine k s)))
  unfolding walk collected
  collected-step tells zero s x m = absurd (Memᴰ.not-nil m)
  collected-step tells (suc n) s x m =
      ⊎_elim
      (λ now. (0, omega arith, now))
      (λ later. let (k, small, there) = collected-step tells n (step machine s) x later in (suc k, omega arith, there))
      (Memᴰ.append_cases (tells (machine.answer s)) m)

  -- what every step keeps is kept by the walk
  pub walk-keeps : (P : S → Type 0) → ((s : S) → P s → P (step machine s)) → (n : ℕ) (s : S) → P s → P (walk machine n s)
  unfolding walk
  walk-keeps P keeps zero s h = h
  walk-keeps P keeps (suc n) s h = walk-keeps P keeps n (step machine s) (keeps s h)

module _ {S A : Type 0} {machine : Machine S A} {Good : S → Type 0} {budget size : S → ℕ} (ending : Ending machine Good budget size) where
  -- ---- after the end

  -- once the answer is the end, a step changes nothing
  pub step_stays : (s : S) → machine.answer s ≡ machine.ended → step machine s ≡ s
  step_stays s e = ap (machine.after s) e ∙ ending.ended_same s

  -- so no number of steps changes anything
  pub walk-stays : (n : ℕ) (s : S) → machine.answer s ≡ machine.ended → walk machine n s ≡ s
  unfolding walk
  walk-stays zero s e = refl
  walk-stays (suc n) s e = ap (walk machine n) (step_stays s e) ∙ walk-stays n s e

  -- nor tells anything of which the end tells nothing
  pub collected-stays : {X : Type 0} (tells : A → List X) → tells machine.ended ≡ [] → (n : ℕ) (s : S) → machine.answer s ≡ machine.ended →
      collected machine tells n s ≡ []
  unfolding collected
  collected-stays tells silent zero s e = refl
  collected-stays tells silent (suc n) s e =
      ap₂ ◌++◌ (ap tells e ∙ silent) (ap (collected machine tells n) (step_stays s e) ∙ collected-stays tells silent n s e)

  -- ---- the end

  -- each fold has taken from the size
  pub walk-fewer : (n : ℕ) (s : S) → Good s → length (fold_list machine n s) + size (walk machine n s) ≤ size s
  unfolding walk collected
  walk-fewer zero s good = omega arith
  walk-fewer (suc n) s good =
      omega (
        arith,
        length-append (machine.fold_of (machine.answer s)) (fold_list machine n (step machine s)),
        ending.fewer s good,
        walk-fewer n (step machine s) (ending.stays_good s good),
      )

  -- each pair closed has taken from the budget
  pub walk-closes : (n : ℕ) (s : S) → Good s → length (reason_list machine n s) + budget (walk machine n s) ≤ budget s
  unfolding walk collected
  walk-closes zero s good = omega arith
  walk-closes (suc n) s good =
      let rest = walk-closes n (step machine s) (ending.stays_good s good) in
      let both = length-append (machine.reason_of (machine.answer s)) (reason_list machine n (step machine s)) in
      ⊎_elim
      (λ e.
      let none : length (machine.reason_of (machine.answer s)) ≡ 0 = ap (λ (a : A). length (machine.reason_of a)) e ∙ ap length ending.ended_reasons in
      omega (arith, both, none, rest, ap budget (step_stays s e)))
      (λ on. omega (arith, both, rest, ending.one_reason (machine.answer s), ending.falls s good on))
      (ending.ended_or (machine.answer s))

  -- after as many steps as the budget, or more, the answer is the end
  pub walk_ends : (n : ℕ) (s : S) → Good s → budget s ≤ n → machine.answer (walk machine n s) ≡ machine.ended
  unfolding walk
  walk_ends zero s good enough = ⊎_elim (λ e. e) (λ on. absurd (omega (arith, ending.falls s good on))) (ending.ended_or (machine.answer s))
  walk_ends (suc n) s good enough =
      ⊎_elim (λ e. ap machine.answer (walk-stays (suc n) s e) ∙ e)
      (λ on. walk_ends n (step machine s) (ending.stays_good s good) (omega (arith, ending.falls s good on)))
      (ending.ended_or (machine.answer s))

  -- wherever the answer is the end, more steps come to the same state
  pub walk-past : (k n : ℕ) (s : S) → machine.answer (walk machine k s) ≡ machine.ended → k ≤ n → walk machine n s ≡ walk machine k s
  walk-past k n s e past =
      let more = le_dest past in
      ap (λ i. walk machine i s) (sym more.1) ∙ walk-add machine k more.0 s ∙ walk-stays more.0 (walk machine k s) e

  -- so does any budget that is enough
  pub walk-enough : (n : ℕ) (s : S) → Good s → budget s ≤ n → walk machine n s ≡ walk machine (budget s) s
  walk-enough n s good enough = walk-past (budget s) n s (walk_ends (budget s) s good (le_refl _)) enough

  -- and wherever the answer is the end, the walk has come as far as its budget takes it
  pub walk-over : (k : ℕ) (s : S) → Good s → machine.answer (walk machine k s) ≡ machine.ended → walk machine k s ≡ walk machine (budget s) s
  walk-over k s good e = sym (walk-past k (k + budget s) s e (omega arith)) ∙ walk-enough (k + budget s) s good (omega arith)

  -- the same of what is told on the way, where the end tells nothing
  module _ {X : Type 0} (tells : A → List X) (silent : tells machine.ended ≡ []) where
    pub collected-past : (k n : ℕ) (s : S) → machine.answer (walk machine k s) ≡ machine.ended → k ≤ n →
        collected machine tells n s ≡ collected machine tells k s
    collected-past k n s e past =
        let more = le_dest past in
        ap (λ i. collected machine tells i s) (sym more.1) ∙ collected-add machine tells k more.0 s
        ∙ ap (λ rest. collected machine tells k s ++ rest) (collected-stays tells silent more.0 (walk machine k s) e)
        ∙ append-nil (collected machine tells k s)

    pub collected-enough : (n : ℕ) (s : S) → Good s → budget s ≤ n → collected machine tells n s ≡ collected machine tells (budget s) s
    collected-enough n s good enough = collected-past (budget s) n s (walk_ends (budget s) s good (le_refl _)) enough

    pub collected-over : (k : ℕ) (s : S) → Good s → machine.answer (walk machine k s) ≡ machine.ended →
        collected machine tells k s ≡ collected machine tells (budget s) s
    collected-over k s good e = sym (collected-past k (k + budget s) s e (omega arith)) ∙ collected-enough (k + budget s) s good (omega arith)

-- ---- from two states that pass for the same

module _ {S A : Type 0} {machine : Machine S A} {Fit : S → Type 0} {Same : S → S → Type 0} {budget size : S → ℕ}
    (alike : Alike machine Fit Same budget size) where
  -- the walks go through states that pass for the same
  pub walk-alike : (k : ℕ) (s t : S) → Fit s → Same s t → Same (walk machine k s) (walk machine k t)
  unfolding walk
  walk-alike zero s t fit same = same
  walk-alike (suc k) s t fit same = walk-alike k (step machine s) (step machine t) (alike.stays_fit s fit) (alike.same_step fit same)

  -- and tell the same
  pub collected-alike : {X : Type 0} (tells : A → List X) (k : ℕ) (s t : S) → Fit s → Same s t → collected machine tells k s ≡ collected machine tells k t
  unfolding collected
  collected-alike tells zero s t fit same = refl
  collected-alike tells (suc k) s t fit same =
      ap₂ (λ a rest. tells a ++ rest) (alike.same_answer fit same)
      (collected-alike tells k (step machine s) (step machine t) (alike.stays_fit s fit) (alike.same_step fit same))

  -- on their budgets
  pub start-alike : {s t : S} → Fit s → Same s t → Same (walk machine (budget s) s) (walk machine (budget t) t)
  start-alike {s} {t} fit same = rw (alike.same_budget same) (walk-alike (budget t) s t fit same)

  pub told-alike : {X : Type 0} (tells : A → List X) {s t : S} → Fit s → Same s t → collected machine tells (budget s) s ≡ collected machine tells (budget t) t
  told-alike tells {s} {t} fit same = rw (alike.same_budget same) (collected-alike tells (budget t) s t fit same)
