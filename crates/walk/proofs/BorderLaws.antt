-- Border edges and border points: the ends of an edge are border points, a border point is the end of an edge, and each is a point of a face.
-- Assumes nothing.
use Prim.Native.Nat.{ℕ, ◌<◌}
use native.Mathlib.Omega.{arith}
use mathlib.Core.Path.{◌≡◌, refl, ap, ◌∙◌}
use mathlib.Core.Logic.{◌≢◌}
use mathlib.Core.List.{List}
use mathlib.Core.Bool.{Bool, true, not, cond, and_comm}
use mathlib.Mathlib.Data.Bool.Basic.{and_elim_left, and_elim_right}
use borrow.Author.Tests.{eqb-true, eq-eqb, ne_eqb, lt-ltb}
use lib.Dec.{eqb}
use Rattle.lists.specs.Lists.{every, some, below}
use Rattle.lists.proofs.TestLaws.{differ}
use Rattle.lists.proofs.SumLaws.{sum_same}
use Rattle.lists.proofs.BelowLaws.{length-below, get_d-below}
use Rattle.lists.proofs.EveryLaws.{some-count, every-all, every_some, some-implies, some-from}
use Rattle.walk.specs.declared.Face.{Face}
use Rattle.walk.specs.Faces.{holds, both, shared, border_edge, border_point, proper}
use Rattle.walk.proofs.FaceLaws.{held_below}
use Rattle.walk.proofs.FoldLaws.{shared-face}

-- two points share as many faces either way round
pub shared-sym : (faces : List Face) (x y : ℕ) → shared faces x y ≡ shared faces y x
shared-sym faces x y =
    sum_same (λ f. cond (both x y f) 1 0) (λ f. cond (both y x f) 1 0) (λ f. ap (λ (b : Bool). cond b 1 0) (and_comm (holds x f) (holds y f))) faces

-- where they share one, some face holds the first
pub shared-holds : (faces : List Face) (x y : ℕ) → 0 < shared faces x y → some (holds x) faces ≡ true
shared-holds faces x y h =
    some-implies (both x y) (holds x) (λ f e. and_elim_left (holds x f) (holds y f) e) faces
    (some-count (both x y) faces ∙ lt-ltb 0 (shared faces x y) h)

module _ (faces : List Face) (x y : ℕ) where
  -- what a border edge is: two points that share exactly one face
  pub edge-differ : border_edge faces x y ≡ true → x ≢ y
  edge-differ e = differ x y (and_elim_left (not (eqb x y)) (eqb (shared faces x y) 1) e)

  pub edge-shared : border_edge faces x y ≡ true → shared faces x y ≡ 1
  edge-shared e = eqb-true (shared faces x y) 1 (and_elim_right (not (eqb x y)) (eqb (shared faces x y) 1) e)

  pub edge_of : x ≢ y → shared faces x y ≡ 1 → border_edge faces x y ≡ true
  edge_of x_y one = rw (ne_eqb x y x_y, eq-eqb (shared faces x y) 1 one)

  -- its ends are border points
  pub end-border : (v : ℕ) → every (proper v) faces ≡ true → border_edge faces x y ≡ true → border_point v faces x ≡ true
  unfolding border_point
  end-border v all e =
      let f = shared-face (proper v) faces x y all (omega (arith, edge-shared e)) in
      let small = held_below v f.0 y f.1 f.3 in
      some-from (border_edge faces x) 0 (below v) y (rw length-below small) (rw (get_d-below v y small) e)

-- a border point is the end of a border edge
pub border-edge : (v : ℕ) (faces : List Face) (x : ℕ) → border_point v faces x ≡ true → (y : ℕ) × (border_edge faces x y ≡ true)
unfolding border_point
border-edge v faces x border =
    let (y, _, edge) = every_some (λ (y : ℕ). true) (border_edge faces x) (below v) (every-all (λ y. true) (λ y. refl) (below v)) border in
    (y, edge)

-- so it is a point that there is
pub border-below : (v : ℕ) (faces : List Face) (x : ℕ) → every (proper v) faces ≡ true → border_point v faces x ≡ true → x < v
border-below v faces x all border =
    let (y, edge) = border-edge v faces x border in
    let f = shared-face (proper v) faces x y all (omega (arith, edge-shared faces x y edge)) in
    held_below v f.0 x f.1 f.2
