-- A point, or a quadric, that is stored: it reads back, and every other one and every cell past them is as before.
-- Assumes nothing.
use Prim.Native.Nat.{ℕ, suc, ◌+◌, ◌*◌, ◌≤◌, ◌<◌}
use native.Mathlib.Nat.{zero-add, add-zero, mul-zero, mul-suc, mul-le-mul_left, le_trans, le_of_eq, lt_of_not-le}
use native.Mathlib.Omega.{arith}
use mathlib.Core.Path.{◌≡◌, refl, sym}
use mathlib.Core.Logic.{◌≢◌}
use mathlib.Core.List.{List}
use lib.Ieee.{Float, nan}
use lib.ListN.{length, get_or, drop}
use lib.Seq.{sets, length-sets}
use Rattle.geometry.specs.declared.Point.{Point}
use Rattle.geometry.specs.declared.Quadric.{Quadric}
use Rattle.meaning.specs.Input.{point_at}
use Rattle.memory.specs.Points.{quadric_at, point_parts, quadric_parts, with_point, with_quadric}
use Rattle.lists.proofs.StoredLaws.{stored_at, stored_other, stored-drop}

-- ---- the same parts in two memories are the same point, and the same quadric

module _ (p' p : List Float) (x' x : ℕ) where
  pub point-same : ((k : ℕ) → k < 3 → get_or p' (3 * x' + k) nan ≡ get_or p (3 * x + k) nan) → point_at p' x' ≡ point_at p x
  point-same same =
      let part-0 = simp add-zero at (same 0 (omega arith)) in
      rw (part-0, same 1 (omega arith), same 2 (omega arith))

  pub quadric-same : ((k : ℕ) → k < 10 → get_or p' (10 * x' + k) nan ≡ get_or p (10 * x + k) nan) → quadric_at p' x' ≡ quadric_at p x
  quadric-same same =
      let part-0 = simp add-zero at (same 0 (omega arith)) in
      rw (
        part-0,
        same 1 (omega arith),
        same 2 (omega arith),
        same 3 (omega arith),
        same 4 (omega arith),
        same 5 (omega arith),
        same 6 (omega arith),
        same 7 (omega arith),
        same 8 (omega arith),
        same 9 (omega arith),
      )

-- ---- what is stored in n cells to each point

-- What storing a at x does to the memory, where x has the n cells from n * x on: it reads back, any other is as before, and so are the cells past those of v points.
pub record Stored {A : Type 0} (n : ℕ) (read : List Float → ℕ → A) (p : List Float) (x : ℕ) (a : A) (p' : List Float) : Type 0 where
  pub back : n * x + n ≤ length p → read p' x ≡ a
  pub other : (y : ℕ) → y ≢ x → read p' y ≡ read p y
  pub same_length : length p' ≡ length p
  pub rest : (v : ℕ) → x < v → drop (n * v) p' ≡ drop (n * v) p

-- the cells of a point end where those of a later one begin, or before
cells-end : (n : ℕ) {x y : ℕ} → x < y → n * x + n ≤ n * y
cells-end n {x} l = le_trans (le_of_eq (sym (mul-suc n x))) (mul-le-mul_left n l)

-- a cell is one point's
one-point : (n x y j k : ℕ) → j < n → k < n → n * y + k ≡ n * x + j → y ≡ x
one-point n x y j k j-n k-n e =
    let not-above : y < suc x = lt_of_not-le (λ (l : x < y). omega (arith, cells-end n l)) in
    let not-below : x < suc y = lt_of_not-le (λ (l : y < x). omega (arith, cells-end n l)) in
    omega arith

-- so it is of any run of n parts, where the same parts read the same
stored : {A : Type 0} (n : ℕ) (read : List Float → ℕ → A) →
    ((p' p : List Float) (x' x : ℕ) → ((k : ℕ) → k < n → get_or p' (n * x' + k) nan ≡ get_or p (n * x + k) nan) → read p' x' ≡ read p x) →
    (parts : List Float) → length parts ≡ n → (p : List Float) (x : ℕ) → Stored n read p x (read parts 0) (sets p (n * x) parts)
stored n read same parts many p x =
    let after = sets p (n * x) parts in
    record {
      back = λ fits. same after parts x 0 (λ k h. rw (mul-zero, zero-add) (stored_at nan parts p (n * x) (omega arith) k (omega arith)));
      other = λ y other. same after p y y (λ k h. stored_other nan parts p (n * x) (n * y + k) (λ j g e. other (one-point n x y j k (omega arith) h e)));
      same_length = length-sets p (n * x) parts;
      rest = λ v l. stored-drop parts p (n * x) (n * v) (omega (arith, cells-end n l));
    }

-- a point, and a quadric
pub point-stored : (p : List Float) (x : ℕ) (a : Point) → Stored 3 point_at p x a (with_point p x a)
unfolding with_point
point-stored p x a = stored 3 point_at point-same (point_parts a) refl p x

pub quadric-stored : (q : List Float) (x : ℕ) (b : Quadric) → Stored 10 quadric_at q x b (with_quadric q x b)
unfolding with_quadric
quadric-stored q x b = stored 10 quadric_at quadric-same (quadric_parts b) refl q x
