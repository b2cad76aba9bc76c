-- No two faces of a list use an edge from the same point to the same point exactly where each way along each edge has one face at most.
-- Assumes nothing.
use Prim.Native.Nat.{ℕ, zero, suc, ◌+◌, ◌≤◌, ◌<◌}
use native.Mathlib.Omega.{arith}
use mathlib.Core.Path.{◌≡◌, refl, sym, ap₂, ◌∙◌}
use mathlib.Core.List.{map}
use mathlib.Core.Bool.{true, false, ◌&&◌, cond, or-true}
use lib.Dec.{eqb}
use borrow.Author.Tests.{eq-eqb}
use Rattle.lists.specs.Lists.{sum, below}
use Rattle.lists.proofs.TestLaws.{by-test, clash, one_of_three, false_of, flag-le, ends}
use Rattle.lists.proofs.SumLaws.{sum-map}
use Rattle.lists.proofs.BelowLaws.{sum_below, sum-none, sum-partial, term-le}
use Rattle.walk.specs.declared.Face.{Face}
use Rattle.walk.specs.Faces.{runs}
use Rattle.sameway.specs.Ways.{same_way, OneWay}

-- two faces that run along one edge from the same point to the same point use it the same way
same-way-of : (x y : ℕ) (f g : Face) → runs x y f ≡ true → runs x y g ≡ true → same_way f g ≡ true
same-way-of x y f g in_f in_g =
    one_of_three (eqb x f.a && eqb y f.b) (eqb x f.b && eqb y f.c) (eqb x f.c && eqb y f.a) in_f
    (λ t. let e = ends x y f.a f.b t in rw (moved e.0 e.1))
    (λ t. let e = ends x y f.b f.c t in rw (moved e.0 e.1, or-true))
    (λ t. let e = ends x y f.c f.a t in rw (moved e.0 e.1, or-true))
  where
    moved : {m n : ℕ} → x ≡ m → y ≡ n → runs m n g ≡ true
    moved e d = ap₂ (λ (m n : ℕ). runs m n g) (sym e) (sym d) ∙ in_g

-- and back: two that use an edge the same way run along one of the first's three so
same-way-known : {P : Type 0} (f g : Face) → same_way f g ≡ true → ((x y : ℕ) → runs x y f ≡ true → runs x y g ≡ true → P) → P
same-way-known f g t so =
    one_of_three (runs f.a f.b g) (runs f.b f.c g) (runs f.c f.a g) t
    (λ u. so f.a f.b (rw (eq-eqb f.a f.a refl, eq-eqb f.b f.b refl)) u)
    (λ u. so f.b f.c (rw (eq-eqb f.b f.b refl, eq-eqb f.c f.c refl, or-true)) u)
    (λ u. so f.c f.a (rw (eq-eqb f.c f.c refl, eq-eqb f.a f.a refl, or-true)) u)

module _ (face : ℕ → Face) where
  -- whether face k runs from x to y, as a number
  abbrev flag : ℕ → ℕ → ℕ → ℕ
  flag x y k = cond (runs x y (face k)) 1 0

  -- where no two of the first n faces use an edge the same way, each way has one face at most
  flags-once : (x y n : ℕ) → ((i j : ℕ) → i < j → j < n → same_way (face i) (face j) ≡ false) → sum (flag x y) (below n) ≤ 1
  unfolding sum below
  flags-once x y zero apart = omega arith
  flags-once x y (suc n) apart =
      let last : flag x y n ≤ 1 = flag-le (runs x y (face n)) in
      by-test (runs x y (face n))
      (λ t.
      let none =
      sum-none (flag x y) n
      (λ k l. rw (false_of (runs x y (face k)) (λ u. clash (same-way-of x y (face k) (face n) u t) (apart k n l (omega arith))))) in
      omega (arith, sum_below (flag x y) n))
      (λ t.
      let none : flag x y n ≡ 0 = rw t in
      omega (arith, sum_below (flag x y) n, flags-once x y n (λ i j l m. apart i j l (omega arith))))

  -- said of the list of them
  pub one-way-of : (n : ℕ) → ((i j : ℕ) → i < j → j < n → same_way (face i) (face j) ≡ false) → OneWay (map face (below n))
  one-way-of n apart x y = rw sum-map (flags-once x y n apart)

  -- and where each way has one at most, no two use an edge the same way
  pub one-way-apart : (n : ℕ) → OneWay (map face (below n)) → (i j : ℕ) → i < j → j < n → same_way (face i) (face j) ≡ false
  one-way-apart n one i j i-j j-n =
      false_of (same_way (face i) (face j))
      (λ t. same-way-known (face i) (face j) t
      (λ x y in-i in-j.
      let ones : flag x y i + flag x y j ≡ 2 = rw (in-i, in-j) in
      omega (
        arith,
        one x y,
        sum-map (λ f. cond (runs x y f) 1 0) face (below n),
        term-le (flag x y) i j i-j,
        sum_below (flag x y) j,
        sum-partial (flag x y) (suc j) n j-n,
      )))
