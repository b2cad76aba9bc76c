-- Which way the faces run along an edge, counted: the faces of an edge are those of its two ways, and what a fold does to each way.
-- Assumes nothing.
use Prim.Native.Nat.{ℕ, ◌+◌, ◌≤◌}
use native.Mathlib.Nat.{le_antisymm, le_of_eq}
use native.Mathlib.Omega.{arith}
use mathlib.Core.Path.{◌≡◌, sym, ◌∙◌}
use mathlib.Core.Logic.{◌≢◌}
use mathlib.Core.List.{List}
use mathlib.Core.Bool.{Bool, true, false, not, ◌&&◌, ◌||◌, cond}
use borrow.Author.Tests.{not-true}
use Rattle.lists.specs.Lists.{sum, count, every}
use Rattle.lists.proofs.TestLaws.{by-test}
use Rattle.lists.proofs.SumLaws.{sum-map, sum-those, sum_same, sum-add, sum-zero, sum-le}
use Rattle.walk.specs.declared.Face.{Face}
use Rattle.walk.specs.declared.Pair.{Pair}
use Rattle.walk.specs.Faces.{holds, both, shared, runs, renamed_face, proper}
use Rattle.walk.specs.Fold.{folded_faces}
use Rattle.sameway.specs.Ways.{OneWay}
use Rattle.walk.proofs.FaceLaws.{renamed-other}
use Rattle.walk.proofs.FoldLaws.{folded-gone}
use Rattle.sameway.proofs.TurnLaws.{Way, way-from, way-to, runs_none, either-flag, one-way-round, no_loop, no_room}

-- ---- the counts of one mesh

-- two weights that agree on each face that passes, where every one passes
sum-where : {g h : Face → ℕ} (test : Face → Bool) → ((f : Face) → test f ≡ true → g f ≡ h f) →
    (faces : List Face) → every test faces ≡ true → sum g faces ≡ sum h faces
sum-where {g} {h} test same faces all =
    le_antisymm
    (sum-le {g = g} {h = h} test (λ f t. le_of_eq (same f t)) faces all)
    (sum-le {g = h} {h = g} test (λ f t. le_of_eq (sym (same f t))) faces all)

-- the faces that hold both of two points are those that run along them one way and those that run the other
pub shared-ways : (v : ℕ) (faces : List Face) (x y : ℕ) → every (proper v) faces ≡ true → x ≢ y →
    shared faces x y ≡ count (runs x y) faces + count (runs y x) faces
shared-ways v faces x y all x_y =
    sum-where (proper v) (one-way-round v x y x_y) faces all ∙ sum-add (λ f. cond (runs x y f) 1 0) (λ f. cond (runs y x f) 1 0) faces

-- so where each way is run along by one face at most, an edge has two faces at most
pub edge-in-two : (v : ℕ) (faces : List Face) (x y : ℕ) → every (proper v) faces ≡ true → OneWay faces → x ≢ y → shared faces x y ≤ 2
edge-in-two v faces x y all one x_y = omega (arith, shared-ways v faces x y all x_y, one x y, one y x)

-- a test that fails on each face that passes another counts none
none-where : (test other : Face → Bool) → ((f : Face) → test f ≡ true → other f ≡ false) →
    (faces : List Face) → every test faces ≡ true → count other faces ≡ 0
none-where test other fails faces all =
    sum-where {g = λ f. cond (other f) 1 0} {h = λ f. 0} test (λ f h. rw (fails f h)) faces all ∙ sum-zero faces

-- no proper face runs from a point to itself
pub no-loops : (v : ℕ) (faces : List Face) (x : ℕ) → every (proper v) faces ≡ true → count (runs x x) faces ≡ 0
no-loops v faces x all = none-where (proper v) (runs x x) (no_loop v x) faces all

-- ---- a fold, away from its two points

-- an edge between two other points is run along as often as before, each way, whatever the faces
pub ways-elsewhere : (faces : List Face) (p : Pair) (x y : ℕ) → p.keep ≢ p.remove →
    x ≢ p.keep → x ≢ p.remove → y ≢ p.keep → y ≢ p.remove →
    count (runs x y) (folded_faces faces p) ≡ count (runs x y) faces
unfolding folded_faces
ways-elsewhere faces p x y k_r x_k x_r y_k y_r = rw (sum-map, sum-those) (sum_same _ _ each faces)
  where
    each :
        (f : Face)
        → ◌≡◌ {A = ℕ}
        (cond (not (both p.keep p.remove f)) (cond (runs x y (renamed_face p.keep p.remove f)) 1 0) 0)
        (cond (runs x y f) 1 0)
    each f =
        by-test (both p.keep p.remove f)
        (λ t. rw (t, no_room x y p.keep p.remove k_r (λ e. x_k (sym e)) (λ e. x_r (sym e)) (λ e. y_k (sym e)) (λ e. y_r (sym e)) f t))
        (λ t. let same = renamed-other p.keep p.remove in
        rw (t, same x x_k x_r f.a, same x x_k x_r f.b, same x x_k x_r f.c, same y y_k y_r f.a, same y y_k y_r f.b, same y y_k y_r f.c))

module _ (faces : List Face) (p : Pair) (k_r : p.keep ≢ p.remove) where
  -- a test that fails on each face without remove counts none after the fold
  without-remove : (other : Face → Bool) → ((f : Face) → holds p.remove f ≡ false → other f ≡ false) → count other (folded_faces faces p) ≡ 0
  without-remove other fails =
      none-where (λ f. not (holds p.remove f)) other (λ f h. fails f (not-true _ h)) (folded_faces faces p) (folded-gone faces p k_r)

  -- nothing runs to remove any more, or from it
  pub none-to-remove : (x : ℕ) → count (runs x p.remove) (folded_faces faces p) ≡ 0
  none-to-remove x = without-remove (runs x p.remove) (λ f h. (runs_none p.remove x f h).1)

  pub none-from-remove : (x : ℕ) → count (runs p.remove x) (folded_faces faces p) ≡ 0
  none-from-remove x = without-remove (runs p.remove x) (λ f h. (runs_none p.remove x f h).0)

-- ---- a fold, at keep

-- the faces that a fold kills and that go a way between x and either point
abbrev pub dead : (ℕ → ℕ → Face → Bool) → Pair → ℕ → Face → Bool
dead way p x f = both p.keep p.remove f && (way x p.keep f || way x p.remove f)

module _ {way : ℕ → ℕ → Face → Bool} (is : Way way) (v : ℕ) (faces : List Face) (p : Pair) (all : every (proper v) faces ≡ true)
    (k_r : p.keep ≢ p.remove) (x : ℕ) (x_k : x ≢ p.keep) (x_r : x ≢ p.remove) where
  -- one face: it is left and goes that way between x and keep, or dead and went that way, just where it went that way between x and one of the two
  one-face : (f : Face) → proper v f ≡ true →
      cond (not (both p.keep p.remove f)) (cond (way x p.keep (renamed_face p.keep p.remove f)) 1 0) 0 + cond (dead way p x f) 1 0
      ≡ cond (way x p.keep f) 1 0 + cond (way x p.remove f) 1 0
  one-face f h =
      let two = either-flag (way x p.keep f) (way x p.remove f) (is.apart v x p.keep p.remove k_r f h) in
      by-test (both p.keep p.remove f)
      (λ t. rw t (omega arith))
      (λ t. rw (t, is.joined p.keep p.remove x x_k x_r f) (omega arith))

  -- so those that go a way between x and keep after the fold and those that it killed are all that went that way between x and either
  pub ways-joined :
      count (way x p.keep) (folded_faces faces p) + count (dead way p x) faces ≡ count (way x p.keep) faces + count (way x p.remove) faces
  unfolding folded_faces
  ways-joined =
      rw (sum-map, sum-those)
      (sym (sum-add _ (λ f. cond (dead way p x f) 1 0) faces)
      ∙ sum-where (proper v) one-face faces all
      ∙ sum-add (λ f. cond (way x p.keep f) 1 0) (λ f. cond (way x p.remove f) 1 0) faces)

module _ (v : ℕ) (faces : List Face) (p : Pair) (all : every (proper v) faces ≡ true)
    (k_r : p.keep ≢ p.remove) (x : ℕ) (x_k : x ≢ p.keep) (x_r : x ≢ p.remove) where
  -- said of each way: from x to keep, and from keep to x
  pub ways-to-keep :
      count (runs x p.keep) (folded_faces faces p)
      + count (λ f. both p.keep p.remove f && (runs x p.keep f || runs x p.remove f)) faces
      ≡ count (runs x p.keep) faces + count (runs x p.remove) faces
  ways-to-keep = ways-joined way-from v faces p all k_r x x_k x_r

  pub ways-from-keep :
      count (runs p.keep x) (folded_faces faces p)
      + count (λ f. both p.keep p.remove f && (runs p.keep x f || runs p.remove x f)) faces
      ≡ count (runs p.keep x) faces + count (runs p.remove x) faces
  ways-from-keep = ways-joined way-to v faces p all k_r x x_k x_r

  -- so no way at keep has more faces than keep and remove had together
  pub ways-at-keep :
      (count (runs x p.keep) (folded_faces faces p) ≤ count (runs x p.keep) faces + count (runs x p.remove) faces)
      × (count (runs p.keep x) (folded_faces faces p) ≤ count (runs p.keep x) faces + count (runs p.remove x) faces)
  ways-at-keep = (omega (arith, ways-to-keep), omega (arith, ways-from-keep))

  -- and two at most, where each way had one at most before
  pub two-at-keep : OneWay faces → (count (runs x p.keep) (folded_faces faces p) ≤ 2) × (count (runs p.keep x) (folded_faces faces p) ≤ 2)
  two-at-keep one =
      (omega (arith, ways-at-keep.0, one x p.keep, one x p.remove), omega (arith, ways-at-keep.1, one p.keep x, one p.remove x))
