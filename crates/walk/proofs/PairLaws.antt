-- Pairs: which one joins which points, and that the least of a list is one of it.
-- Assumes nothing.
use Prim.Native.Nat.{ℕ, ◌+◌, ◌≤◌, ◌<◌, min, max}
use mathlib.Core.Path.{◌≡◌, refl, sym, ap, ◌∙◌}
use mathlib.Core.Logic.{◌≢◌}
use mathlib.Core.List.{List, [], ◌∷◌, map}
use mathlib.Core.Bool.{Bool, true, false, not, ◌&&◌, ◌||◌, cond, or-true}
use mathlib.Mathlib.Data.Bool.Basic.{and_elim_left, and_elim_right}
use native.Mathlib.Nat.{le_trans, le_of_eq}
use native.Mathlib.Omega.{arith}
use lib.Dec.{ltb, eqb}
use borrow.Author.Tests.{eqb-true, eqb-false, eq-eqb}
use Rattle.walk.specs.declared.Face.{Face}
use Rattle.walk.specs.declared.Pair.{Pair}
use Rattle.lists.specs.Lists.{sum, count, those, below}
use Rattle.walk.specs.Faces.{holds, both, Mesh, Rules}
use Rattle.walk.specs.Pairs.{pair_of, same_pair, apart, pairs_below, least, order}
use Rattle.walk.specs.Sound.{joins}
use Rattle.lists.proofs.TestLaws.{by-test, either-of, none_of_four, ends, by-twos}
use Rattle.lists.proofs.SumLaws.{sum-map, sum-flat_map, sum_mono}
use Rattle.lists.proofs.EveryLaws.{count-those, count-mono, count_none}
use Rattle.lists.proofs.BelowLaws.{count-below-le}
use Rattle.walk.proofs.FaceLaws.{Four, at-corner}
use Rattle.walk.proofs.SamePairs.{same_self}

-- ---- a pair that joins two points

-- one way round, the other way round, and no other
pub joins-along : (x y : ℕ) (q : Pair) → q.keep ≡ x → q.remove ≡ y → joins x y q ≡ true
joins-along x y q e d = rw (eq-eqb q.keep x e, eq-eqb q.remove y d)

pub joins-against : (x y : ℕ) (q : Pair) → q.keep ≡ y → q.remove ≡ x → joins x y q ≡ true
joins-against x y q e d = rw (eq-eqb q.keep y e, eq-eqb q.remove x d, or-true)

pub joins-cases :
    {P : Type 0} (x y : ℕ) (q : Pair) → joins x y q ≡ true
    → (q.keep ≡ x → q.remove ≡ y → P) → (q.keep ≡ y → q.remove ≡ x → P) → P
joins-cases x y q h along against =
    either-of (eqb q.keep x && eqb q.remove y) (eqb q.keep y && eqb q.remove x) h
    (λ t. let e = ends q.keep q.remove x y t in along e.0 e.1)
    (λ t. let e = ends q.keep q.remove y x t in against e.0 e.1)

-- a face that holds a pair's two points has an edge that the pair joins
pub on_edge :
    (f : Face) (q : Pair) → q.keep ≢ q.remove
    → cond (both q.keep q.remove f) 1 0
    ≤ cond (joins f.a f.b q) 1 0 + cond (joins f.b f.c q) 1 0 + cond (joins f.c f.a q) 1 0
on_edge f q k_r =
    by-test (both q.keep q.remove f)
    (λ t. rw t (edge (and_elim_left (holds q.keep f) (holds q.remove f) t) (and_elim_right (holds q.keep f) (holds q.remove f) t)))
    (λ t. rw t (omega arith))
  where
    Edge : Type 0
    Edge = 1 ≤ cond (joins f.a f.b q) 1 0 + cond (joins f.b f.c q) 1 0 + cond (joins f.c f.a q) 1 0

    edge : holds q.keep f ≡ true → holds q.remove f ≡ true → Edge
    edge keep remove =
        at-corner q.keep f keep
        (λ k. at-corner q.remove f remove
        (λ r. absurd (k_r (k ∙ sym r)))
        (λ r. rw (joins-along f.a f.b q k r) (omega arith))
        (λ r. rw (joins-against f.c f.a q k r) (omega arith)))
        (λ k. at-corner q.remove f remove
        (λ r. rw (joins-against f.a f.b q k r) (omega arith))
        (λ r. absurd (k_r (k ∙ sym r)))
        (λ r. rw (joins-along f.b f.c q k r) (omega arith)))
        (λ k. at-corner q.remove f remove
        (λ r. rw (joins-along f.c f.a q k r) (omega arith))
        (λ r. rw (joins-against f.b f.c q k r) (omega arith))
        (λ r. absurd (k_r (k ∙ sym r))))

-- ---- pairs apart

-- two pairs apart touch no common point
pub apart-known :
    (p q : Pair) → apart p q ≡ true
    → (q.keep ≢ p.keep) × (q.keep ≢ p.remove) × (q.remove ≢ p.keep) × (q.remove ≢ p.remove)
apart-known p q h =
    let e = none_of_four (eqb q.keep p.keep) (eqb q.keep p.remove) (eqb q.remove p.keep) (eqb q.remove p.remove) h in (
      eqb-false q.keep p.keep e.0,
      eqb-false q.keep p.remove e.1,
      eqb-false q.remove p.keep e.2,
      eqb-false q.remove p.remove e.3,
    )

-- so two pairs apart, each of two points, are four points
pub apart-four :
    (p q : Pair) → p.keep ≢ p.remove → q.keep ≢ q.remove → apart p q ≡ true
    → Four q.keep q.remove p.keep p.remove
apart-four p q p-differ q-differ h =
    let e = apart-known p q h in
    record { x_y = q-differ; k_r = p-differ; x_k = e.0; x_r = e.1; y_k = e.2; y_r = e.3 }

-- of the pairs apart from p, none joins p's keep to a point
pub apart_none :
    (p : Pair) (ps : List Pair) (x y : ℕ) → (eqb p.keep x || eqb p.keep y) ≡ true
    → count (joins x y) (those (apart p) ps) ≡ 0
apart_none p ps x y h =
    rw count-those
    (count_none (λ q. apart p q && joins x y q)
    (λ q t.
    let e = apart-known p q (and_elim_left (apart p q) (joins x y q) t) in
    let joined = and_elim_right (apart p q) (joins x y q) t in
    either-of (eqb p.keep x) (eqb p.keep y) h
    (λ u. let at = eqb-true p.keep x u in joins-cases x y q joined (λ k r. omega arith) (λ k r. omega arith))
    (λ u. let at = eqb-true p.keep y u in joins-cases x y q joined (λ k r. omega arith) (λ k r. omega arith)))
    ps)

-- ---- lists of pairs in which two points are joined once

-- one point with others: of two points that it is one of, it is with the other once
pub star-once :
    (k v : ℕ) (test : ℕ → Bool) (x y : ℕ) → count (joins x y) (map (pair_of k) (those test (below v))) ≤ 1
star-once k v test x y =
    rw (sum-map, count-those (λ n. joins x y (pair_of k n)) test)
    (le_trans
    (count-mono (λ n. test n && joins x y (pair_of k n)) (eqb other)
    (λ n h. is-other n (and_elim_right (test n) (joins x y (pair_of k n)) h)) (below v))
    (count-below-le other v))
  where
    other : ℕ
    other = cond (eqb k x) y x

    is-other : (n : ℕ) → joins x y (pair_of k n) ≡ true → eqb other n ≡ true
    is-other n h =
        joins-cases x y (pair_of k n) h
        (λ e d. rw (eq-eqb k x e) (eq-eqb y n (sym d)))
        (λ e d. by-test (eqb k x) (λ t. rw t (eq-eqb y n (sym e ∙ eqb-true k x t ∙ sym d))) (λ t. rw t (eq-eqb x n (sym d))))

-- of two points that it is none of, not at all
pub star-none :
    (k v : ℕ) (test : ℕ → Bool) (x y : ℕ) → k ≢ x → k ≢ y → count (joins x y) (map (pair_of k) (those test (below v))) ≡ 0
star-none k v test x y k-x k-y =
    rw (sum-map, count-those (λ n. joins x y (pair_of k n)) test)
    (count_none (λ n. test n && joins x y (pair_of k n))
    (λ n h. joins-cases x y (pair_of k n) (and_elim_right (test n) (joins x y (pair_of k n)) h) (λ e d. k-x e) (λ e d. k-y e)) (below v))

-- every two numbers, the lower first: the lower of two points is with the higher once
pub rising-once :
    (v : ℕ) (test : Pair → Bool) → ((p : Pair) → test p ≡ true → p.keep < p.remove)
    → (x y : ℕ) → count (joins x y) (those test (pairs_below v)) ≤ 1
unfolding pairs_below
rising-once v test rises x y =
    rw (count-those, sum-flat_map)
    (le_trans (sum_mono _ _ each (below v)) (count-below-le (min x y) v))
  where
    found : (a b : ℕ) → (test (pair_of a b) && joins x y (pair_of a b)) ≡ true → (min x y ≡ a) × (max x y ≡ b)
    found a b h =
        let rise = rises (pair_of a b) (and_elim_left (test (pair_of a b)) (joins x y (pair_of a b)) h) in
        joins-cases x y (pair_of a b) (and_elim_right (test (pair_of a b)) (joins x y (pair_of a b)) h) (λ e d. omega arith) (λ e d. omega arith)

    each : (a : ℕ) → count (λ p. test p && joins x y p) (map (pair_of a) (below v)) ≤ cond (eqb (min x y) a) 1 0
    each a =
        rw sum-map
        (by-test (eqb (min x y) a)
        (λ t. rw t (le_trans (count-mono _ (eqb (max x y)) (λ b h. eq-eqb (max x y) b (found a b h).1) (below v)) (count-below-le (max x y) v)))
        (λ t. rw t (le_of_eq (count_none _ (λ b h. eqb-false (min x y) a t (found a b h).0) (below v)))))

-- ---- the least

module _ {D : Type 0} (rules : Rules D) (m : Mesh D) where
  -- whichever of two goes on, what comes out is one of the list of both
  either-one :
      (p q : Pair) (qs : List Pair) (b : Bool)
      → 0 < count (same_pair (least rules m q qs)) (q ∷ qs) → 0 < count (same_pair (least rules m p qs)) (p ∷ qs)
      → 0 < count (same_pair (least rules m (cond b q p) qs)) (p ∷ q ∷ qs)
  unfolding sum
  either-one p q qs true of-q of-p = omega arith
  either-one p q qs false of-q of-p = omega arith

  -- the least of a list is one of it
  pub least-one : (p : Pair) (ps : List Pair) → 0 < count (same_pair (least rules m p ps)) (p ∷ ps)
  unfolding least sum
  least-one p [] = rw (same_self p) (omega arith)
  least-one p (q ∷ qs) =
      either-one p q qs (ltb (order rules m q) (order rules m p)) (least-one q qs) (least-one p qs)

-- ---- the pairs that a change of points spares

-- a pair of points that are not touched
abbrev pub spared : (ℕ → Bool) → Pair → Bool
spared touched x = not (touched x.keep || touched x.remove)

-- the points of a fold
abbrev pub touches : ℕ → ℕ → ℕ → Bool
touches keep remove x = eqb x keep || eqb x remove

-- the pairs that the fold spares are those apart from it
pub spared-apart : (keep remove : ℕ) (ps : List Pair) → those (spared (touches keep remove)) ps ≡ those (apart (pair_of keep remove)) ps
spared-apart keep remove ps =
    ap (λ (test : Pair → Bool). those test ps)
    (λ i x. by-twos (eqb x.keep keep) (eqb x.keep remove) (eqb x.remove keep) (eqb x.remove remove) i)

-- a pair is not apart from itself
pub without-self : (x : Pair) (ps : List Pair) → those (apart x) (x ∷ ps) ≡ those (apart x) ps
unfolding those
without-self x ps = rw (eq-eqb x.keep x.keep refl)
