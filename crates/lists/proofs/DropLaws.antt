-- Lists that agree from some place on.
-- Assumes nothing.
use Prim.Native.Nat.{ℕ, ◌+◌, ◌-◌, ◌≤◌}
use native.Mathlib.Omega.{arith}
use mathlib.Core.Path.{◌≡◌, sym, ap, ◌∙◌}
use mathlib.Core.List.{List}
use lib.ListN.{get_or, drop}
use lib.Seq.{drop-drop, get_or-drop}

-- two lists that agree from m on agree further on
pub rest_more : {A : Type 0} (p' p : List A) (m n : ℕ) → m ≤ n → drop m p' ≡ drop m p → drop n p' ≡ drop n p
rest_more p' p m n past same =
    let there : m + (n - m) ≡ n = omega arith in
    ap (λ k. drop k p') (sym there)
    ∙ sym (drop-drop (n - m) m p')
    ∙ ap (drop (n - m)) same
    ∙ drop-drop (n - m) m p
    ∙ ap (λ k. drop k p) there

-- two lists that agree from m on agree in each cell from there
pub past-drop : {A : Type 0} (d : A) (p' p : List A) (m : ℕ) → drop m p' ≡ drop m p → (k : ℕ) → m ≤ k → get_or p' k d ≡ get_or p k d
past-drop {A} d p' p m same k past =
    let there : m + (k - m) ≡ k = omega arith in
    ap (λ (i : ℕ). get_or p' i d) (sym there)
    ∙ sym (get_or-drop m p' (k - m) d)
    ∙ ap (λ (l : List A). get_or l (k - m) d) same
    ∙ get_or-drop m p (k - m) d
    ∙ ap (λ (i : ℕ). get_or p i d) there
