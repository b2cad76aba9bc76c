-- The order of floats that are no NaN is total: one is at most another exactly where the other is not below it.
-- Assumes nothing.
use Rattle.std.proofs.Common.{◌≡◌, ℕ, ◌+◌, ◌*◌, ◌<◌, ◌≤◌, Bool, true, false, not, ◌||◌, eqb, ltb, ◌≢◌, sym, refl, ⊎_elim, true≢false, arith, le-ltb, lt-ltb, eq-eqb, ne_eqb}
use mathlib.Core.Bool.{and-true, and-false, or-true}
use lib.Ieee.{Float, nan, inf, fin, is_nan, lt, eq, le, below, level, up, down}
use Rattle.bits.proofs.RootSteps.{lt-or-le}

-- below or the same, of two numbers
at_most : (a b : ℕ) (same : Bool) → (a ≡ b → same ≡ true) → (a ≢ b → same ≡ false) → (ltb a b || same) ≡ not (ltb b a)
at_most a b same is is-not =
    ⊎_elim
    (λ (h : a < b). rw (lt-ltb a b h, le-ltb b a (omega arith)))
    (λ (h : b ≤ a). ⊎_elim
    (λ (g : b < a). rw (le-ltb a b h, is-not (omega arith), lt-ltb b a g))
    (λ (g : a ≤ b). rw (le-ltb a b h, is (omega arith), le-ltb b a g))
    (lt-or-le b a))
    (lt-or-le a b)

-- of two sizes with their signs
total : (s : Bool) (a : ℕ) (t : Bool) (b : ℕ) → (below s a t b || level s a t b) ≡ not (below t b s a)
total false a false b = rw and-true (at_most a b (eqb a b) (eq-eqb a b) (ne_eqb a b))
total false a true b =
    ⊎_elim
    (λ (h : 0 < b + a). rw (lt-ltb 0 (b + a) h)
    (⊎_elim (λ (g : 0 < a). rw (ne_eqb a 0 (omega arith), and-false)) (λ g. rw (ne_eqb a b (omega arith))) (lt-or-le 0 a)))
    (λ (h : b + a ≤ 0). rw (le-ltb 0 (b + a) h, eq-eqb a b (omega arith), eq-eqb a 0 (omega arith)))
    (lt-or-le 0 (b + a))
total true a false b =
    ⊎_elim
    (λ (h : 0 < a + b). rw (lt-ltb 0 (a + b) h))
    (λ (h : a + b ≤ 0). rw (eq-eqb a b (omega arith), eq-eqb a 0 (omega arith), or-true))
    (lt-or-le 0 (a + b))
total true a true b = rw and-true (at_most b a (eqb a b) (λ e. eq-eqb a b (sym e)) (λ e. ne_eqb a b (λ d. e (sym d))))

-- of two floats
pub le_total : (x y : Float) → is_nan x ≡ false → is_nan y ≡ false → le x y ≡ not (lt y x)
unfolding is_nan le lt eq
le_total nan y p q = absurd (true≢false p)
le_total (inf s) nan p q = absurd (true≢false q)
le_total (inf true) (inf true) p q = refl
le_total (inf true) (inf false) p q = refl
le_total (inf false) (inf true) p q = refl
le_total (inf false) (inf false) p q = refl
le_total (inf true) (fin t n d) p q = refl
le_total (inf false) (fin t n d) p q = refl
le_total (fin s m e) nan p q = absurd (true≢false q)
le_total (fin s m e) (inf true) p q = refl
le_total (fin s m e) (inf false) p q = refl
le_total (fin s m e) (fin t n d) p q = total s (m * up e * down d) t (n * up d * down e)
