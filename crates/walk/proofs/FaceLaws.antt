-- One face: its three corners, that it holds no fourth point, and that it stays proper when remove is renamed to keep.
-- Assumes nothing.
use Prim.Native.Nat.{ℕ, ◌+◌, ◌≤◌, ◌<◌}
use mathlib.Core.Path.{◌≡◌, refl, sym, subst, ◌∙◌}
use mathlib.Core.Logic.{◌≢◌}
use mathlib.Core.Bool.{true, false, not, ◌&&◌, cond, or-true}
use mathlib.Mathlib.Data.Bool.Basic.{and_elim_left, and_elim_right}
use native.Mathlib.Omega.{arith}
use lib.Dec.{ltb, eqb}
use borrow.Author.Tests.{ltb-true, lt-ltb, eqb-true, eqb-false, eq-eqb, ne_eqb, not-true}
use Rattle.walk.specs.declared.Face.{Face}
use Rattle.walk.specs.Faces.{holds, both, renamed, renamed_face, proper, runs}
use Rattle.lists.proofs.TestLaws.{by-test, clash, one_of_three, all-of-six, false_of, flag-le, differ, ends, not-two}
use Rattle.lists.proofs.CondLaws.{cond-three}

-- ---- the corners of one face

-- what a proper face is, said of its numbers
pub record Corners (v : ℕ) (f : Face) : Type 0 where
  pub a_below : f.a < v
  pub b_below : f.b < v
  pub c_below : f.c < v
  pub a_b : f.a ≢ f.b
  pub b_c : f.b ≢ f.c
  pub c_a : f.c ≢ f.a

-- the test says so, and back
pub corners : (v : ℕ) (f : Face) → proper v f ≡ true → Corners v f
corners v f h =
    let k =
    all-of-six
    (ltb f.a v) (ltb f.b v) (ltb f.c v)
    (not (eqb f.a f.b)) (not (eqb f.b f.c)) (not (eqb f.c f.a)) h in
    record {
      a_below = ltb-true f.a v k.0;
      b_below = ltb-true f.b v k.1;
      c_below = ltb-true f.c v k.2;
      a_b = differ f.a f.b k.3;
      b_c = differ f.b f.c k.4;
      c_a = differ f.c f.a k.5;
    }

pub proper-of : (v : ℕ) (f : Face) → Corners v f → proper v f ≡ true
proper-of v f k =
    rw (
      lt-ltb f.a v k.a_below,
      lt-ltb f.b v k.b_below,
      lt-ltb f.c v k.c_below,
      ne_eqb f.a f.b k.a_b,
      ne_eqb f.b f.c k.b_c,
      ne_eqb f.c f.a k.c_a,
    )

-- a face that holds a point has it at one of its three corners
pub at-corner :
    {P : Type 0} (x : ℕ) (f : Face) → holds x f ≡ true → (x ≡ f.a → P) → (x ≡ f.b → P) → (x ≡ f.c → P) → P
at-corner x f h at_a at_b at_c =
    one_of_three (eqb x f.a) (eqb x f.b) (eqb x f.c) h
    (λ t. at_a (eqb-true x f.a t)) (λ t. at_b (eqb-true x f.b t)) (λ t. at_c (eqb-true x f.c t))

-- and a point at a corner is held
pub holds-a : (x : ℕ) (f : Face) → x ≡ f.a → holds x f ≡ true
holds-a x f e = rw (eq-eqb x f.a e)

pub holds-b : (x : ℕ) (f : Face) → x ≡ f.b → holds x f ≡ true
holds-b x f e = rw (eq-eqb x f.b e, or-true)

pub holds-c : (x : ℕ) (f : Face) → x ≡ f.c → holds x f ≡ true
holds-c x f e = rw (eq-eqb x f.c e, or-true)

-- the point of a proper face is one that there is
pub held_below : (v : ℕ) (f : Face) (x : ℕ) → proper v f ≡ true → holds x f ≡ true → x < v
held_below v f x h held =
    let k = corners v f h in
    at-corner x f held (λ e. omega arith) (λ e. omega arith) (λ e. omega arith)

-- it is at one corner alone: a weight at each corner that is at x is the weight of the face, if it holds x
pub held-once : (v : ℕ) (f : Face) (x n : ℕ) → proper v f ≡ true →
    cond (eqb x f.a) n 0 + cond (eqb x f.b) n 0 + cond (eqb x f.c) n 0 ≡ cond (holds x f) n 0
held-once v f x n h =
    let k = corners v f h in
    cond-three (eqb x f.a) (eqb x f.b) (eqb x f.c) n
    (not-two x f.a f.b k.a_b) (not-two x f.b f.c k.b_c) (not-two x f.c f.a k.c_a)

-- a face edge runs between two of the face's points
pub runs-both : (x y : ℕ) (f : Face) → runs x y f ≡ true → both x y f ≡ true
runs-both x y f h =
    one_of_three (eqb x f.a && eqb y f.b) (eqb x f.b && eqb y f.c) (eqb x f.c && eqb y f.a) h
    (λ t. let e = ends x y f.a f.b t in rw (holds-a x f e.0, holds-b y f e.1))
    (λ t. let e = ends x y f.b f.c t in rw (holds-b x f e.0, holds-c y f e.1))
    (λ t. let e = ends x y f.c f.a t in rw (holds-c x f e.0, holds-a y f e.1))

-- ---- four points in a face

-- a point that a face holds is at one corner at least
corner-count : (x : ℕ) (f : Face) → holds x f ≡ true → 1 ≤ cond (eqb x f.a) 1 0 + cond (eqb x f.b) 1 0 + cond (eqb x f.c) 1 0
corner-count x f h =
    at-corner x f h
    (λ e. rw (eq-eqb x f.a e) (omega arith))
    (λ e. rw (eq-eqb x f.b e) (omega arith))
    (λ e. rw (eq-eqb x f.c e) (omega arith))

-- four different points
pub record Four (x y k r : ℕ) : Type 0 where
  pub x_y : x ≢ y
  pub k_r : k ≢ r
  pub x_k : x ≢ k
  pub x_r : x ≢ r
  pub y_k : y ≢ k
  pub y_r : y ≢ r

-- a corner is one of four different points at most
one-corner :
    (x y k r : ℕ) → Four x y k r → (n : ℕ)
    → cond (eqb x n) 1 0 + cond (eqb y n) 1 0 + cond (eqb k n) 1 0 + cond (eqb r n) 1 0 ≤ 1
one-corner x y k r four n =
    by-test (eqb x n)
    (λ t. let e = eqb-true x n t in rw (t, ne_eqb y n (omega arith), ne_eqb k n (omega arith), ne_eqb r n (omega arith)) (omega arith))
    (λ not-x. by-test (eqb y n)
    (λ t. let e = eqb-true y n t in rw (not-x, t, ne_eqb k n (omega arith), ne_eqb r n (omega arith)) (omega arith))
    (λ not-y. by-test (eqb k n)
    (λ t. let e = eqb-true k n t in rw (not-x, not-y, t, ne_eqb r n (omega arith)) (omega arith))
    (λ not-k. rw (not-x, not-y, not-k) (omega (arith, flag-le (eqb r n))))))

-- so a face that holds two points can't also hold two others: it has three corners
pub no-fourth : (x y k r : ℕ) → Four x y k r → (f : Face) → both k r f ≡ true → both x y f ≡ false
no-fourth x y k r four f kr =
    false_of (both x y f)
    (λ xy. omega (
      arith,
      corner-count x f (and_elim_left (holds x f) (holds y f) xy),
      corner-count y f (and_elim_right (holds x f) (holds y f) xy),
      corner-count k f (and_elim_left (holds k f) (holds r f) kr),
      corner-count r f (and_elim_right (holds k f) (holds r f) kr),
      one-corner x y k r four f.a,
      one-corner x y k r four f.b,
      one-corner x y k r four f.c,
    ))

-- ---- one face, renamed

module _ (k r : ℕ) where
  -- remove is at no corner any more
  pub renamed-gone : k ≢ r → (n : ℕ) → eqb r (renamed k r n) ≡ false
  renamed-gone k_r n =
      by-test (eqb n r)
      (λ t. rw (t, ne_eqb r k (omega arith)))
      (λ t. rw (t, ne_eqb r n (omega (arith, eqb-false n r t))))

  pub holds-gone : k ≢ r → (f : Face) → holds r (renamed_face k r f) ≡ false
  holds-gone k_r f = rw (renamed-gone k_r f.a, renamed-gone k_r f.b, renamed-gone k_r f.c)

  -- a point that is neither is at the corners that it was at
  pub renamed-other : (x : ℕ) → x ≢ k → x ≢ r → (n : ℕ) → eqb x (renamed k r n) ≡ eqb x n
  renamed-other x x_k x_r n =
      by-test (eqb n r)
      (λ t. rw (t, eqb-true n r t, ne_eqb x k x_k, ne_eqb x r x_r))
      (λ t. rw t)

  pub holds-other : (x : ℕ) → x ≢ k → x ≢ r → (f : Face) → holds x (renamed_face k r f) ≡ holds x f
  holds-other x x_k x_r f =
      rw (renamed-other x x_k x_r f.a, renamed-other x x_k x_r f.b, renamed-other x x_k x_r f.c)

  -- two different corners of a face that doesn't hold both stay different
  renamed-differ :
      (f : Face) → both k r f ≡ false → (m n : ℕ) → holds m f ≡ true → holds n f ≡ true → m ≢ n → renamed k r m ≢ renamed k r n
  renamed-differ f not-both m n hold-m hold-n m-n =
      by-test (eqb m r)
      (λ mr. by-test (eqb n r)
      (λ nr. absurd (m-n (eqb-true m r mr ∙ sym (eqb-true n r nr))))
      (λ nr. rw (mr, nr) (λ e. never (moved e hold-n) (moved (sym (eqb-true m r mr)) hold-m))))
      (λ mr. by-test (eqb n r)
      (λ nr. rw (mr, nr) (λ e. never (moved (sym e) hold-m) (moved (sym (eqb-true n r nr)) hold-n)))
      (λ nr. rw (mr, nr) m-n))
    where
      moved : {x y : ℕ} → x ≡ y → holds y f ≡ true → holds x f ≡ true
      moved e h = subst (λ z. holds z f ≡ true) (sym e) h

      never : holds k f ≡ true → holds r f ≡ true → ⊥
      never hold-k hold-r = clash (rw (hold-k, hold-r)) not-both

  -- a corner stays below what keep is below
  renamed-below : (v : ℕ) → k < v → (n : ℕ) → n < v → renamed k r n < v
  renamed-below v k-v n n-v = by-test (eqb n r) (λ t. rw t k-v) (λ t. rw t n-v)

  -- so a proper face that doesn't hold both stays proper
  pub renamed-proper : (v : ℕ) → k < v → (f : Face) → proper v f ≡ true → not (both k r f) ≡ true → proper v (renamed_face k r f) ≡ true
  renamed-proper v k-v f h left =
      let c = corners v f h in
      let differ = renamed-differ f (not-true (both k r f) left) in
      proper-of v (renamed_face k r f)
      record {
        a_below = renamed-below v k-v f.a c.a_below;
        b_below = renamed-below v k-v f.b c.b_below;
        c_below = renamed-below v k-v f.c c.c_below;
        a_b = differ f.a f.b (holds-a f.a f refl) (holds-b f.b f refl) c.a_b;
        b_c = differ f.b f.c (holds-b f.b f refl) (holds-c f.c f refl) c.b_c;
        c_a = differ f.c f.a (holds-c f.c f refl) (holds-a f.a f refl) c.c_a;
      }
