-- A fraction n / u to the nearest whole number, a tie to the even one (`closest`), by one addition and one division: for an even u,
-- n is raised by just under a half of u, and by one more where the whole part is odd. Assumes nothing.
use Rattle.std.proofs.Common.{◌≡◌, ℕ, zero, suc, ◌+◌, ◌-◌, ◌*◌, ◌/◌, ◌%◌, ◌^◌, ◌<◌, ◌≤◌, not, T, eqb, sym, refl, ap, ◌∙◌, subst, mod-lt, one-mul, pow-suc, div-add-mod', arith, eqb→eq, leb→le, pow_pos, shl_exact}
use Prim.Native.Nat.{compare, Ordering}
use native.Mathlib.Nat.{div-eq_of_lt, div-eq_of_lt-le, mul-add-div_right, mul-add-mod_self_right}
use lib.Dec.{is_le, compare_is_eq, nleb→lt, eqb_refl}
use lib.Arith.{lt_of_le-ne}
use lib.Pow.{pow-lt}
use lib.Ieee.{nearest}
use lib.Ieee.Fits.{nearest-le}
use lib.Ieee.Nearest.{closest}

-- ---- the rule

-- what an answer of `compare` says
abbrev Compared : Ordering → ℕ → ℕ → Type 0
Compared Ordering.lt a b = a < b
Compared Ordering.eq a b = a ≡ b
Compared Ordering.gt a b = b < a

-- and that it says so
compared : (a b : ℕ) → Compared (compare a b) a b
compared a b = go (compare a b) (leb→le a b) (nleb→lt a b) (eqb→eq a b) (λ (e : a ≡ b). subst (λ (x : ℕ). T (eqb a x)) e (eqb_refl a))
  where
    go : (o : Ordering) → (T (is_le o) → a ≤ b) → (T (not (is_le o)) → b < a) → (T (compare_is_eq o) → a ≡ b) → (a ≡ b → T (compare_is_eq o)) → Compared o a b
    go Ordering.lt h k e n = lt_of_le-ne (h tt) n
    go Ordering.eq h k e n = e tt
    go Ordering.gt h k e n = k tt

-- from one unit up to two, the unit goes in once
once : (y u : ℕ) → u ≤ y → y < u + u → y / u ≡ 1
once y u lo hi = div-eq_of_lt-le u (omega arith) (omega arith)

-- at a tie the raised rest y is one short of a unit, and the last digit d of the whole part decides
tied : (d y u : ℕ) → d < 2 → 0 < u → y + 1 ≡ u + d → y / u ≡ d
tied zero y u l p e = div-eq_of_lt (omega arith)
tied (suc zero) y u l p e = once y u (omega arith) (omega arith)
tied (suc (suc d)) y u l p e = absurd (omega arith)

-- the whole part q, the rest r, and the raised rest y: below a half, a tie, above a half
raised : (o : Ordering) (q r h u y : ℕ) → r < u → h * 2 ≡ u → y ≡ r + (h - 1) + q % 2 → Compared o (r * 2) u → q + y / u ≡ nearest q o
raised Ordering.lt q r h u y l t e c = let none : y / u ≡ 0 = div-eq_of_lt (omega arith) in omega arith
raised Ordering.eq q r h u y l t e c = let even : y / u ≡ q % 2 = tied (q % 2) y u (omega arith) (omega arith) (omega arith) in omega arith
raised Ordering.gt q r h u y l t e c = let up : y / u ≡ 1 = once y u (omega arith) (omega arith) in omega arith

-- the rule: h is a half of the unit u
pub half-even : (n u h : ℕ) → 0 < u → h * 2 ≡ u → (n + (h - 1) + n / u % 2) / u ≡ closest n u
half-even n u h p t =
    let q = n / u in
    let r = n % u in
    let y = r + (h - 1) + q % 2 in
    let apart : n + (h - 1) + q % 2 ≡ q * u + y = omega (arith, div-add-mod' n u) in
    ap (λ (x : ℕ). x / u) apart
    ∙ mul-add-div_right p q y
    ∙ raised (compare (r * 2) u) q r h u y (mod-lt n p) t refl (compared (r * 2) u)

-- ---- what follows

-- an even whole number x beside the fraction stays as it is
nearest-whole : (x q : ℕ) (o : Ordering) → x % 2 ≡ 0 → nearest (x + q) o ≡ x + nearest q o
nearest-whole x q Ordering.lt e = refl
nearest-whole x q Ordering.eq e = omega arith
nearest-whole x q Ordering.gt e = omega arith

pub closest-whole : (x n u : ℕ) → 0 < u → x % 2 ≡ 0 → closest (x * u + n) u ≡ x + closest n u
closest-whole x n u p e = rw (mul-add-div_right p x n, mul-add-mod_self_right x u n) (nearest-whole x (n / u) (compare (n % u * 2) u) e)

-- below a half there is nothing left
pub closest-small : (n h : ℕ) → n < h → closest n (h * 2) ≡ 0
closest-small n h l =
    let none : n / (h * 2) ≡ 0 = div-eq_of_lt (omega arith) in
    sym (half-even n (h * 2) h (omega arith) refl) ∙ div-eq_of_lt (omega arith)

-- at most one is added to the whole part
pub closest-le : (n u : ℕ) → closest n u ≤ suc (n / u)
closest-le n u = nearest-le (n / u) (compare (n % u * 2) u)

-- ---- a power of two as the unit

-- a half of 2^places, as a shift of 64 bits makes it
pub record Halved (places : ℕ) : Type 0 where
  pub shifted : 1 * 2 ^ (places - 1) % 2 ^ 64 ≡ 2 ^ (places - 1)
  pub twice : 2 ^ (places - 1) * 2 ≡ 2 ^ places
  pub some : 0 < 2 ^ (places - 1)
  pub few : 2 ^ (places - 1) < 2 ^ 62

pub halved : (places : ℕ) → 0 < places → places < 63 → Halved places
halved places lo hi =
    let back : suc (places - 1) ≡ places = omega arith in
    record {
      shifted = shl_exact 1 (places - 1) 64 (omega arith) (omega arith) ∙ one-mul (2 ^ (places - 1));
      twice = sym (pow-suc 2 (places - 1)) ∙ ap (λ (x : ℕ). 2 ^ x) back;
      some = pow_pos (places - 1);
      few = pow-lt {j = 62} (omega arith);
    }
