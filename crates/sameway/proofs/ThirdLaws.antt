-- The third points of the faces that hold both points of a pair: where they differ and the pair is linked, they are all the common neighbours.
-- Assumes nothing.
use Prim.Native.Nat.{ℕ, zero, suc, ◌+◌, ◌≤◌, ◌<◌, zero-le}
use native.Mathlib.Nat.{not-suc-le-zero, le_of_suc-le-suc, eq-or-lt_of_le, le_trans}
use native.Mathlib.Omega.{arith}
use mathlib.Core.Path.{◌≡◌, refl, sym, ◌∙◌}
use mathlib.Core.Logic.{◌≢◌, ⊎_elim}
use mathlib.Core.List.{List}
use mathlib.Core.Bool.{Bool, true, not, ◌&&◌, ◌||◌, cond, or-true}
use lib.Dec.{ltb, leb, eqb}
use borrow.Author.Tests.{ltb-true, ltb-false, lt-ltb, eqb-true, eqb-false, eq-eqb, ne_eqb, not-true}
use Rattle.lists.specs.Lists.{sum, count, every, below}
use Rattle.lists.proofs.TestLaws.{by-test, both_true, neither-of, either-of, flag_true, flag-le}
use Rattle.lists.proofs.SumLaws.{sum-swap, sum-le, witness}
use Rattle.lists.proofs.BelowLaws.{sum_below, sum-most, term-le}
use Rattle.lists.proofs.EveryLaws.{count-mono}
use Rattle.walk.specs.declared.Face.{Face}
use Rattle.walk.specs.declared.Pair.{Pair}
use Rattle.walk.specs.Faces.{holds, both, shared, neighbour, common, proper}
use Rattle.walk.specs.FoldTest.{linked}
use Rattle.sameway.specs.Ways.{ThirdsDiffer}
use Rattle.walk.proofs.FaceLaws.{held_below}
use Rattle.sameway.proofs.TurnLaws.{turn_at}

-- a weight that is nowhere more than another, and in sum no less, is nowhere less
sum-tight : (g h : ℕ → ℕ) (n : ℕ) → ((k : ℕ) → k < n → g k ≤ h k) → sum h (below n) ≤ sum g (below n) → (k : ℕ) → k < n → h k ≤ g k
sum-tight g h zero most same k l = absurd (not-suc-le-zero l)
sum-tight g h (suc n) most same k l =
    let front = sum-most g h n (λ i m. most i (omega arith)) in
    let last = most n (omega arith) in
    let sums : sum h (below n) + h n ≤ sum g (below n) + g n = omega (arith, sum_below g n, sum_below h n) in
    ⊎_elim
    (λ e. rw e (omega arith))
    (λ m. sum-tight g h n (λ i j. most i (omega arith)) (omega arith) k m)
    (eq-or-lt_of_le (le_of_suc-le-suc l))

-- ---- third points and common neighbours

-- z is the third point of a face with both
abbrev pub third : Pair → ℕ → Face → Bool
third p z f = both p.keep p.remove f && holds z f && not (eqb z p.keep || eqb z p.remove)

-- what that says
pub record Third (p : Pair) (z : ℕ) (f : Face) : Type 0 where
  pub holds-both : both p.keep p.remove f ≡ true
  pub holds-it : holds z f ≡ true
  pub not-keep : z ≢ p.keep
  pub not-remove : z ≢ p.remove

pub third-known : (p : Pair) (z : ℕ) (f : Face) → third p z f ≡ true → Third p z f
third-known p z f t =
    let outer = both_true (both p.keep p.remove f && holds z f) _ t in
    let inner = both_true (both p.keep p.remove f) (holds z f) outer.0 in
    let other = neither-of (eqb z p.keep) (eqb z p.remove) (not-true _ outer.1) in
    record {
      holds-both = inner.0;
      holds-it = inner.1;
      not-keep = eqb-false z p.keep other.0;
      not-remove = eqb-false z p.remove other.1;
    }

-- and back
third-test : (p : Pair) (z : ℕ) (f : Face) → Third p z f → third p z f ≡ true
third-test p z f is =
    rw (is.holds-both, is.holds-it, ne_eqb z p.keep is.not-keep, ne_eqb z p.remove is.not-remove)

-- a proper face with both has a third point
third_of : (v : ℕ) (p : Pair) → p.keep ≢ p.remove → (f : Face) → proper v f ≡ true → both p.keep p.remove f ≡ true → (z : ℕ) × Third p z f
third_of v p k_r f h kr =
    let two = both_true (holds p.keep f) (holds p.remove f) kr in
    let turn = turn_at v f p.keep h two.0 in
    let next = turn.next in
    let last = turn.last in
    either-of (eqb p.remove next) (eqb p.remove last) (sym (turn.others p.remove (λ e. k_r (sym e))) ∙ two.1)
    (λ t. (
      last,
      record {
        holds-both = kr;
        holds-it = turn.others last turn.last-x ∙ rw (eq-eqb last last refl, or-true);
        not-keep = turn.last-x;
        not-remove = λ e. turn.next_last (sym (e ∙ eqb-true p.remove next t));
      },
    ))
    (λ t. (
      next,
      record {
        holds-both = kr;
        holds-it = turn.others next turn.next-x ∙ rw (eq-eqb next next refl);
        not-keep = turn.next-x;
        not-remove = λ e. turn.next_last (e ∙ eqb-true p.remove last t);
      },
    ))

-- a common neighbour of the two points of a pair
abbrev pub near : List Face → Pair → ℕ → Bool
near faces p z = neighbour faces p.keep z && neighbour faces p.remove z

-- another point that shares a face with each
pub near_of : (faces : List Face) (p : Pair) (z : ℕ) → z ≢ p.keep → z ≢ p.remove →
    0 < shared faces p.keep z → 0 < shared faces p.remove z → near faces p z ≡ true
near_of faces p z z-k z-r with-keep with-remove =
    rw (
      ne_eqb p.keep z (λ e. z-k (sym e)),
      ne_eqb p.remove z (λ e. z-r (sym e)),
      lt-ltb 0 (shared faces p.keep z) with-keep,
      lt-ltb 0 (shared faces p.remove z) with-remove,
    )

-- ---- as many of the one as of the other

module _ (v : ℕ) (faces : List Face) (p : Pair) (all : every (proper v) faces ≡ true) (k_r : p.keep ≢ p.remove) where
  -- so the third points, counted over all points, are no fewer than the faces with both
  thirds-enough : shared faces p.keep p.remove ≤ sum (λ z. count (third p z) faces) (below v)
  thirds-enough =
      rw (sum-swap (λ (z : ℕ) (f : Face). cond (third p z f) 1 0) (below v) faces)
      (sum-le (proper v) each faces all)
    where
      each : (f : Face) → proper v f ≡ true → cond (both p.keep p.remove f) 1 0 ≤ sum (λ z. cond (third p z f) 1 0) (below v)
      each f h =
          by-test (both p.keep p.remove f)
          (λ t.
          let (z, is) = third_of v p k_r f h t in
          le_trans (flag-le (both p.keep p.remove f))
          (rw (third-test p z f is) at (term-le (λ z. cond (third p z f) 1 0) z v (held_below v f z h is.holds-it))))
          (λ t. rw t zero-le)

  -- a third point is a common neighbour, and the third point of one face at most where they differ
  third-near : ThirdsDiffer faces p → (z : ℕ) → count (third p z) faces ≤ cond (near faces p z) 1 0
  third-near differ z =
      by-test (ltb 0 (count (third p z) faces))
      (λ t.
      let some-third = ltb-true 0 (count (third p z) faces) t in
      let (f, _, there) = witness (proper v) (λ f. cond (third p z f) 1 0) faces all some-third in
      let is = third-known p z f (flag_true (third p z f) there) in
      rw (near_of faces p z is.not-keep is.not-remove (le_trans some-third with-keep) (le_trans some-third with-remove))
      (le_trans with-both (differ z is.not-keep is.not-remove)))
      (λ t. omega (arith, ltb-false 0 (count (third p z) faces) t))
    where
      at_most : (wider : Face → Bool) → ((f : Face) → Third p z f → wider f ≡ true) → count (third p z) faces ≤ count wider faces
      at_most wider so = count-mono (third p z) wider (λ f t. so f (third-known p z f t)) faces

      with-both : count (third p z) faces ≤ count (λ f. both p.keep p.remove f && holds z f) faces
      with-both = at_most (λ f. both p.keep p.remove f && holds z f) (λ f is. rw (is.holds-both, is.holds-it))

      with-keep : count (third p z) faces ≤ shared faces p.keep z
      with-keep = at_most (both p.keep z) (λ f is. rw ((both_true (holds p.keep f) (holds p.remove f) is.holds-both).0, is.holds-it))

      with-remove : count (third p z) faces ≤ shared faces p.remove z
      with-remove = at_most (both p.remove z) (λ f is. rw ((both_true (holds p.keep f) (holds p.remove f) is.holds-both).1, is.holds-it))

  module _ (is-linked : linked v faces p.keep p.remove ≡ true) (differ : ThirdsDiffer faces p) where
    -- so where the pair is linked, every common neighbour is a third point
    pub near-third : (z : ℕ) → z < v → near faces p z ≡ true → 0 < count (third p z) faces
    near-third z small is-near =
        let same =
        eqb-true (common v faces p.keep p.remove) (shared faces p.keep p.remove)
        (both_true (leb 1 (shared faces p.keep p.remove)) _ is-linked).1 in
        rw is-near at
        (sum-tight (λ z. count (third p z) faces) (λ z. cond (near faces p z) 1 0) v (λ z l. third-near differ z) (omega (arith, thirds-enough)) z small)
