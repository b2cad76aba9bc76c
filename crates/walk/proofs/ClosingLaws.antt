-- Pairs closed, counted by reason: one more, that the counts sum to the number of reasons, and that each is small enough to be stored.
-- Assumes nothing.
use Prim.Native.Nat.{ℕ, ◌+◌, ◌*◌, ◌^◌, ◌≤◌, ◌<◌}
use native.Mathlib.Nat.{add-zero, mul-le-mul_right}
use native.Mathlib.Omega.{arith}
use mathlib.Core.Path.{◌≡◌, refl, ap, ◌∙◌}
use mathlib.Core.List.{List, [], ◌∷◌, ◌++◌}
use mathlib.Core.Bool.{Bool, cond}
use lib.ListN.{length, length-append}
use Rattle.lists.specs.Lists.{sum, count}
use Rattle.lists.proofs.SumLaws.{sum-append}
use Rattle.lists.proofs.EveryLaws.{count_most}
use Rattle.walk.specs.declared.Closings.{Closings}
use Rattle.walk.specs.declared.Reason.{Reason}
use Rattle.walk.specs.declared.Reason.TheVariants.{NotLinked, Squashed, TurnedOver}
use Rattle.walk.specs.Walk.{State, budget}
use Rattle.walk.specs.Closings.{is_not_linked, is_squashed, is_turned_over, none_closed, closings_of}
use Rattle.walk.specs.Clauses.{with_reason, RoomToCount}
use Rattle.walk.specs.Sound.{Sound}
use Rattle.walk.proofs.StepLaws.{open-bound}

-- where each count is zero, as `Closings::default` answers, none is closed
pub default-closed : {closed : Closings} → (closed.unlinked ≡ 0) × ((closed.squashed ≡ 0) × (closed.turned ≡ 0)) → closed ≡ none_closed
default-closed zeros = λ t. record { unlinked = zeros.0 t; squashed = zeros.1.0 t; turned = zeros.1.1 t }

-- one more at the end of a list
count-last : (test : Reason → Bool) (reasons : List Reason) (reason : Reason) → count test (reasons ++ (reason ∷ [])) ≡ count test reasons + cond (test reason) 1 0
unfolding sum
count-last test reasons reason =
    sum-append (λ r. cond (test r) 1 0) reasons (reason ∷ []) ∙ ap (λ (n : ℕ). count test reasons + n) (add-zero (cond (test reason) 1 0))

pub closings-more : (reasons : List Reason) (reason : Reason) → closings_of (reasons ++ (reason ∷ [])) ≡ with_reason (closings_of reasons) reason
unfolding closings_of
closings-more reasons reason =
    λ t. record {
      unlinked = count-last is_not_linked reasons reason t;
      squashed = count-last is_squashed reasons reason t;
      turned = count-last is_turned_over reasons reason t;
    }

-- each reason is of one kind, so the counts sum to the number of reasons
pub sum-of-closings : (reasons : List Reason) → (closings_of reasons).unlinked + (closings_of reasons).squashed + (closings_of reasons).turned ≡ length reasons
unfolding closings_of sum
sum-of-closings [] = refl
sum-of-closings (NotLinked ∷ reasons) = omega (arith, sum-of-closings reasons)
sum-of-closings (Squashed face ∷ reasons) = omega (arith, sum-of-closings reasons)
sum-of-closings (TurnedOver face ∷ reasons) = omega (arith, sum-of-closings reasons)

-- with few reasons there is room to count another
pub few-closed : (reasons : List Reason) (reason : Reason) → length (reasons ++ (reason ∷ [])) < 2 ^ 64 → RoomToCount (closings_of reasons)
unfolding closings_of
few-closed reasons reason few =
    let more = length-append reasons (reason ∷ []) in
    record {
      unlinked_few = omega (arith, few, more, count_most is_not_linked reasons);
      squashed_few = omega (arith, few, more, count_most is_squashed reasons);
      turned_few = omega (arith, few, more, count_most is_turned_over reasons);
    }

-- the budget of a mesh within document 01's limits is small
pub budget-few : {D : Type 0} (faces : ℕ) (s : State D) → Sound s → faces ≤ 131072 → length s.mesh.faces ≤ faces → budget faces s < 2 ^ 64
unfolding budget
budget-few faces s sound few live =
    let most : length s.mesh.faces ≤ 131072 = omega arith in
    omega (arith, open-bound s sound, mul-le-mul_right (3 * faces + 1) most)
