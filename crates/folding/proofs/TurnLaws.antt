-- A step for each slot of a list that stands in the memory: the turns of such a loop, and the cells that stay.
-- Assumes nothing.
use Prim.Native.Nat.{ℕ, ◌+◌, ◌≤◌, ◌<◌}
use native.Mathlib.Nat.{le_antisymm}
use native.Mathlib.Omega.{arith}
use mathlib.Core.Path.{◌≡◌, refl, sym, ap, ap₂, subst, ◌∙◌}
use mathlib.Core.List.{List, [], ◌∷◌, ◌++◌}
use mathlib.Core.Bool.{true}
use lib.Dec.{ltb}
use lib.ListN.{get_or}
use borrow.Author.Tests.{ltb-true}
use Rattle.lists.specs.Lists.{every, below, stretch}
use Rattle.lists.proofs.EveryLaws.{every-head, every-tail}
use Rattle.lists.specs.Frames.{But}
use Rattle.lists.proofs.FrameLaws.{but-refl, but-then}
use Rattle.ring.proofs.SlotLaws.{slots-more, slot_small}
use Rattle.folding.specs.Clauses.Steps.{in_turn}

module _ (step : ℕ → List ℕ → List ℕ) where
  -- one slot more has its turn
  turn_more : (ks : List ℕ) (k : ℕ) (w : List ℕ) → in_turn step (ks ++ (k ∷ [])) w ≡ step k (in_turn step ks w)
  unfolding in_turn
  turn_more [] k w = refl
  turn_more (j ∷ ks) k w = turn_more ks k (step j w)

  -- where each step keeps to some cells, all of them do
  pub turn-but : {lo hi : ℕ} (f : ℕ) → ((k : ℕ) (w : List ℕ) → k < f → But lo hi w (step k w)) →
      (ks w : List ℕ) → every (λ k. ltb k f) ks ≡ true → But lo hi w (in_turn step ks w)
  unfolding in_turn
  turn-but {lo} {hi} f one [] w all = but-refl lo hi w
  turn-but f one (k ∷ ks) w all =
      but-then (one k w (ltb-true k f (every-head (λ j. ltb j f) k ks all)))
      (turn-but f one ks (step k w) (every-tail (λ j. ltb j f) k ks all))

-- the first i slots of a list have had their turn, and only cells from lo up to hi have changed
pub record Turning (step : ℕ → List ℕ → List ℕ) (lo hi : ℕ) (w₀ : List ℕ) (list n i : ℕ) (w : List ℕ) : Type 0 where
  pub most : i ≤ n
  pub so_far : w ≡ in_turn step (stretch w₀ list i) w₀
  pub but : But lo hi w₀ w

module _ {step : ℕ → List ℕ → List ℕ} {lo hi : ℕ} {w₀ : List ℕ} {list n : ℕ} where
  -- none yet
  pub turn-start : Turning step lo hi w₀ list n 0 w₀
  unfolding in_turn below
  turn-start = record { most = omega arith; so_far = refl; but = but-refl lo hi w₀ }

  -- the next slot, as it is read, is the one that was in the list at the start
  module _ {i k : ℕ} {w : List ℕ} (above : hi ≤ list) (read : k ≡ get_or w (list + i) 0) (h : Turning step lo hi w₀ list n i w) where
    pub turn-slot : k ≡ get_or w₀ (list + i) 0
    turn-slot = read ∙ h.but.over (list + i) (omega arith)

    -- it is one of f
    pub turn_inside : {f : ℕ} → i < n → every (λ k. ltb k f) (stretch w₀ list n) ≡ true → k < f
    turn_inside {f} l all = omega (arith, turn-slot, slot_small f w₀ list n all i l)

    -- it has its turn
    pub turn-next : {w' : List ℕ} → i < n → But lo hi w w' → w' ≡ step k w → Turning step lo hi w₀ list n (i + 1) w'
    turn-next l but same = record {
      most = omega arith;
      so_far =
          same
          ∙ ap₂ step turn-slot h.so_far
          ∙ sym (ap (λ (ks : List ℕ). in_turn step ks w₀) (slots-more w₀ list i) ∙ turn_more step (stretch w₀ list i) (get_or w₀ (list + i) 0) w₀);
      but = but-then h.but but;
    }

  -- all have had it
  pub turn_end : {i : ℕ} {w : List ℕ} → n ≤ i → Turning step lo hi w₀ list n i w → w ≡ in_turn step (stretch w₀ list n) w₀
  turn_end {i} {w} least h = subst (λ (j : ℕ). w ≡ in_turn step (stretch w₀ list j) w₀) (le_antisymm h.most least) h.so_far
