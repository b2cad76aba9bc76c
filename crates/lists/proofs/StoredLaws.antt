-- What a run of values, stored one after the other from a place on, does to every cell.
-- Assumes nothing.
use Prim.Native.Nat.{ℕ, zero, suc, ◌+◌, ◌≤◌, ◌<◌}
use native.Mathlib.Nat.{add-zero, not-suc-le-zero}
use native.Mathlib.Omega.{arith}
use mathlib.Core.Path.{◌≡◌, refl, ◌∙◌}
use mathlib.Core.Logic.{◌≢◌}
use mathlib.Core.List.{List, [], ◌∷◌}
use lib.ListN.{length, get_or, drop, set, length-set}
use lib.Seq.{sets, get_or-set_same, get_or-set_other, drop-set-lt}

module _ {A : Type 0} (d : A) where
  -- a cell that is none of those written
  pub stored_other : (vs l : List A) (i j : ℕ) → ((k : ℕ) → k < length vs → j ≢ i + k) → get_or (sets l i vs) j d ≡ get_or l j d
  stored_other [] l i j apart = refl
  stored_other (a ∷ vs) l i j apart =
      stored_other vs (set l i a) (suc i) j (λ k h e. apart (suc k) (omega arith) (omega arith))
      ∙ get_or-set_other l i j a d (λ e. apart 0 (omega arith) (omega arith))

  -- each cell that is written
  pub stored_at : (vs l : List A) (i : ℕ) → i + length vs ≤ length l → (k : ℕ) → k < length vs → get_or (sets l i vs) (i + k) d ≡ get_or vs k d
  stored_at [] l i fits k h = absurd (not-suc-le-zero h)
  stored_at (a ∷ vs) l i fits zero h =
      rw add-zero (stored_other vs (set l i a) (suc i) i (λ k g. omega arith) ∙ get_or-set_same l i a d (omega arith))
  stored_at (a ∷ vs) l i fits (suc k) h =
      let next : i + suc k ≡ suc i + k = omega arith in
      rw next (stored_at vs (set l i a) (suc i) (rw length-set (omega arith)) k (omega arith))

module _ {A : Type 0} where
  -- the cells past them
  pub stored-drop : (vs l : List A) (i n : ℕ) → i + length vs ≤ n → drop n (sets l i vs) ≡ drop n l
  stored-drop [] l i n past = refl
  stored-drop (a ∷ vs) l i n past = stored-drop vs (set l i a) (suc i) n (omega arith) ∙ drop-set-lt n l i a (omega arith)
