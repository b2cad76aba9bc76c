-- The faces at each point, as chains of corners.
use Rattle.std.specs.Prelude.{ℕ, ◌+◌, ◌*◌, ◌/◌, ◌<◌, ◌≡◌, List, [], ◌∷◌, Bool, true, ◌&&◌, cond, eqb}
use Rattle.lists.specs.Lists.{sum, below}
use Rattle.memory.specs.Memory.{corner, next, first, lives, Room, Proper, Unmarked}

-- from a link the chain runs through just these corners, and ends
unfoldable pub Linked : ℕ → List ℕ → ℕ → List ℕ → Type 0
Linked f w link [] = link ≡ 0
Linked f w link (c ∷ cs) = (link ≡ c + 1) × (c < 3 * f) × Linked f w (next f w c) cs

-- The chain of each point runs through the listed corners at that point, each once: any weight summed over the chain is the weight summed over
-- those corners. So no corner is in two chains, or twice in one.
pub record Chains (v f : ℕ) (w : List ℕ) (listed : ℕ → Bool) : Type 0 where
  pub chain : ℕ → List ℕ
  pub linked : (x : ℕ) → x < v → Linked f w (first f w x) (chain x)
  pub sums : (x : ℕ) → x < v → (g : ℕ → ℕ) → sum g (chain x) ≡ sum (λ c. cond (listed c && eqb (corner w c) x) (g c) 0) (below (3 * f))

-- What is true between folds (document 01, "True after every step"): each live face is listed at each of its three distinct points.
pub record Tidy (v f : ℕ) (w : List ℕ) : Type 0 where
  pub room : Room v f w
  pub faces_proper : Proper v f w
  pub listed : ℕ → Bool
  pub chains : Chains v f w listed
  pub live_listed : (c : ℕ) → c < 3 * f → lives f w (c / 3) ≡ true → listed c ≡ true
  pub unmarked : Unmarked v f w
