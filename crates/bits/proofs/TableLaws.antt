-- The rule of the root's table, at every entry, from a row of which no entry is wrong.
use Rattle.std.proofs.Common.{◌≡◌, ℕ, zero, suc, ◌+◌, ◌-◌, ◌*◌, ◌/◌, ◌%◌, ◌^◌, ◌<◌, ◌≤◌, Bool, true, false, cond, T, ltb, leb, sym, ap, ◌∙◌, inl, inr, mul-le-mul, arith, ltb→lt, leb→le, shr-shr}
use Rattle.bits.specs.Table.{Entry}
use Rattle.bits.specs.Clauses.{wrong, wrong_in, PastAll}
use Rattle.bits.proofs.RootSteps.{lt-or-le}

-- ---- an entry that is not wrong

passed : (a b : Bool) → ◌≡◌ {A = ℕ} (cond a (cond b 0 1) 1) 0 → T a × T b
passed true true h = (tt, tt)
passed true false h = absurd (omega arith)
passed false b h = absurd (omega arith)

right : (k e : ℕ) → wrong k e ≡ 0 → Entry k e
right k e h =
    let tests = passed (leb (e * e) (256 * k)) (ltb (256 * k) ((e + 1) * (e + 1))) h in
    record { at_most = leb→le (e * e) (256 * k) tests.0; above = ltb→lt (256 * k) ((e + 1) * (e + 1)) tests.1 }

-- ---- an entry of a row in which none is wrong

none_first : (a b : ℕ) → a + b ≡ 0 → a ≡ 0
none_first a b h = omega arith

none-later : (a b : ℕ) → a + b ≡ 0 → b ≡ 0
none-later a b h = omega arith

in_row : (m k row j : ℕ) → j < m → wrong_in m k row ≡ 0 → wrong (k + j) (256 + row / 2 ^ (j * 8) % 256) ≡ 0
in_row zero k row j l h = absurd (omega arith)
in_row (suc m) k row zero l h =
    let same : k + 0 ≡ k = omega arith in
    let whole : row / 2 ^ (0 * 8) ≡ row = omega arith in
    rw (same, whole) (none_first (wrong k (256 + row % 256)) _ h)
in_row (suc m) k row (suc j) l h =
    let place : k + 1 + j ≡ k + suc j = omega arith in
    let count : 8 + j * 8 ≡ suc j * 8 = omega arith in
    let digits : row / 256 / 2 ^ (j * 8) ≡ row / 2 ^ (suc j * 8) = shr-shr row 8 (j * 8) ∙ ap (λ (s : ℕ). row / 2 ^ s) count in
    rw (sym place, sym digits) (in_row m (k + 1) (row / 256) j (omega arith) (none-later (wrong k (256 + row % 256)) _ h))

-- the entry of k in its row
pub entry-of : (k row : ℕ) → 256 ≤ k → wrong_in 8 (256 + 8 * (k / 8 - 32)) row ≡ 0 → Entry k (256 + row / 2 ^ (k % 8 * 8) % 256)
entry-of k row low h =
    let at : 256 + 8 * (k / 8 - 32) + k % 8 ≡ k = omega arith in
    right k _ (rw at at (in_row 8 (256 + 8 * (k / 8 - 32)) row (k % 8) (omega arith) h))

-- ---- the bounds of an entry, and of the rows

pub entry-small : (k e : ℕ) → k < 1024 → Entry k e → e < 512
entry-small k e high entry = elim (lt-or-le e 512) [
  | inl h ↦ h
  | inr h ↦ absurd (omega (arith, entry.at_most, mul-le-mul h h))
]

-- a number below m is not past all of these
pub none-past : (m i : ℕ) → i < m → PastAll m i → ⊥
none-past zero i l past = omega arith
none-past (suc m) i l past = elim (lt-or-le i m) [
  | inl h ↦ none-past m i h past.0
  | inr h ↦ past.1 (omega arith)
]
