-- One face and its edges: which way it runs along them, from each of its points and to it, and what renaming remove to keep does to that.
-- Assumes nothing.
use Prim.Native.Nat.{ℕ, ◌+◌}
use native.Mathlib.Omega.{arith}
use mathlib.Core.Path.{◌≡◌, refl, sym, ◌∙◌}
use mathlib.Core.Logic.{◌≢◌}
use mathlib.Core.Bool.{Bool, true, false, ◌&&◌, ◌||◌, cond, and-true, and-false, and_comm, or-true, or-false, or_assoc, or_comm, and-or_distrib_left, and-or_distrib_right}
use lib.Dec.{eqb}
use borrow.Author.Tests.{eqb-true, eqb-false, eq-eqb, ne_eqb}
use Rattle.lists.proofs.TestLaws.{by-test, clash, both_true, either-of, one_of_three, false_of, ends, not-two}
use Rattle.lists.proofs.CondLaws.{one_of_two}
use Rattle.walk.specs.declared.Face.{Face}
use Rattle.walk.specs.Faces.{holds, both, runs, renamed, renamed_face, proper}
use Rattle.walk.proofs.FaceLaws.{corners, at-corner, runs-both, renamed-other}

-- ---- the edges at one point

-- a face that holds x: the point that it runs to from x, the one that it runs to x from, and that these are its others
pub record Turn (x : ℕ) (f : Face) : Type 0 where
  pub next : ℕ
  pub last : ℕ
  pub next_last : next ≢ last
  pub next-x : next ≢ x
  pub last-x : last ≢ x
  pub from : (y : ℕ) → runs x y f ≡ eqb y next
  pub to : (y : ℕ) → runs y x f ≡ eqb y last
  pub others : (y : ℕ) → y ≢ x → holds y f ≡ (eqb y next || eqb y last)

-- at the first corner
turn-first : (x : ℕ) (f : Face) → x ≡ f.a → f.a ≢ f.b → f.b ≢ f.c → f.c ≢ f.a → Turn x f
turn-first x f e a_b b_c c_a =
    let here = eq-eqb x f.a e in
    let not-b = ne_eqb x f.b (omega arith) in
    let not-c = ne_eqb x f.c (omega arith) in
    record {
      next = f.b;
      last = f.c;
      next_last = b_c;
      next-x = omega arith;
      last-x = omega arith;
      from = λ y. simp (here, not-b, not-c, or-false);
      to = λ y. simp (here, not-b, not-c, and-true, and-false);
      others = λ y y-x. rw (ne_eqb y f.a (omega arith));
    }

-- a face told from its second corner on is the same face
abbrev round : Face → Face
round f = record { a = f.b; b = f.c; c = f.a }

or-round : (p q s : Bool) → (p || q || s) ≡ (q || s || p)
or-round p q s = or_assoc p q s ∙ or_comm p (q || s)

turn-round : {x : ℕ} {f : Face} → Turn x (round f) → Turn x f
turn-round {x} {f} turn =
    record {
      next = turn.next;
      last = turn.last;
      next_last = turn.next_last;
      next-x = turn.next-x;
      last-x = turn.last-x;
      from = λ y. or-round (eqb x f.a && eqb y f.b) _ _ ∙ turn.from y;
      to = λ y. or-round (eqb y f.a && eqb x f.b) _ _ ∙ turn.to y;
      others = λ y y-x. or-round (eqb y f.a) _ _ ∙ turn.others y y-x;
    }

-- so a proper face has a turn at each point that it holds
pub turn_at : (v : ℕ) (f : Face) (x : ℕ) → proper v f ≡ true → holds x f ≡ true → Turn x f
turn_at v f x h held =
    let k = corners v f h in
    at-corner x f held
    (λ e. turn-first x f e k.a_b k.b_c k.c_a)
    (λ e. turn-round (turn-first x (round f) e k.b_c k.c_a k.a_b))
    (λ e. turn-round (turn-round (turn-first x (round (round f)) e k.c_a k.a_b k.b_c)))

-- a face runs along no edge at a point that it doesn't hold
pub runs_none : (x y : ℕ) (f : Face) → holds x f ≡ false → (runs x y f ≡ false) × (runs y x f ≡ false)
runs_none x y f none = (
  false_of (runs x y f) (λ t. clash (both_true (holds x f) (holds y f) (runs-both x y f t)).0 none),
  false_of (runs y x f) (λ t. clash (both_true (holds y f) (holds x f) (runs-both y x f t)).1 none),
)

-- two tests of which one passes at most, as numbers
pub either-flag : (t u : Bool) → (t && u) ≡ false → cond (t || u) 1 0 ≡ cond t 1 0 + cond u 1 0
either-flag t u apart = omega (arith, one_of_two 0 t u apart)

-- a proper face that holds both of two points runs along them one way, and one that doesn't runs neither way
pub one-way-round : (v x y : ℕ) → x ≢ y → (f : Face) → proper v f ≡ true →
    cond (both x y f) 1 0 ≡ cond (runs x y f) 1 0 + cond (runs y x f) 1 0
one-way-round v x y x_y f h =
    by-test (holds x f)
    (λ held.
    let turn = turn_at v f x h held in
    rw (held, turn.others y (λ e. x_y (sym e)), turn.from y, turn.to y)
    (either-flag (eqb y turn.next) (eqb y turn.last) (not-two y turn.next turn.last turn.next_last)))
    (λ none. let no = runs_none x y f none in rw (none, no.0, no.1))

-- it runs from no point to itself
pub no_loop : (v x : ℕ) (f : Face) → proper v f ≡ true → runs x x f ≡ false
no_loop v x f h =
    by-test (holds x f)
    (λ held. let turn = turn_at v f x h held in turn.from x ∙ ne_eqb x turn.next (λ e. turn.next-x (sym e)))
    (λ none. (runs_none x x f none).0)

-- a face that runs along an edge has one other point: what else it holds is at the third corner
opposite : (x y : ℕ) (f : Face) → runs x y f ≡ true → (c : ℕ) × ((n : ℕ) → n ≢ x → n ≢ y → holds n f ≡ true → n ≡ c)
opposite x y f t =
    one_of_three (eqb x f.a && eqb y f.b) (eqb x f.b && eqb y f.c) (eqb x f.c && eqb y f.a) t
    (λ u. let e = ends x y f.a f.b u in (f.c, λ n n-x n-y h. at-corner n f h (λ d. omega arith) (λ d. omega arith) (λ d. d)))
    (λ u. let e = ends x y f.b f.c u in (f.a, λ n n-x n-y h. at-corner n f h (λ d. d) (λ d. omega arith) (λ d. omega arith)))
    (λ u. let e = ends x y f.c f.a u in (f.b, λ n n-x n-y h. at-corner n f h (λ d. omega arith) (λ d. d) (λ d. omega arith)))

-- so one that holds two points runs along no edge between others
pub no_room : (x y k r : ℕ) → k ≢ r → k ≢ x → r ≢ x → k ≢ y → r ≢ y → (f : Face) → both k r f ≡ true → runs x y f ≡ false
no_room x y k r k_r k-x r-x k-y r-y f kr =
    let held = both_true (holds k f) (holds r f) kr in
    false_of (runs x y f)
    (λ t. let (c, only) = opposite x y f t in k_r (only k k-x k-y held.0 ∙ sym (only r r-x r-y held.1)))

-- ---- two points joined

-- what the two ways along an edge at x have in common: from x, and to it
pub record Way (way : ℕ → ℕ → Face → Bool) : Type 0 where
  -- both ends are the face's
  pub along : (x y : ℕ) (f : Face) → way x y f ≡ true → both x y f ≡ true
  -- a proper face goes so between x and one of two points at most, and one of them where it holds both and x
  pub apart : (v x k r : ℕ) → k ≢ r → (f : Face) → proper v f ≡ true → (way x k f && way x r f) ≡ false
  pub third : (v x k r : ℕ) → k ≢ r → k ≢ x → r ≢ x → (f : Face) → proper v f ≡ true → holds x f ≡ true → both k r f ≡ true →
      (way x k f || way x r f) ≡ true
  -- with remove renamed to keep it goes so between x and keep where it went between x and either
  pub joined : (k r x : ℕ) → x ≢ k → x ≢ r → (f : Face) → way x k (renamed_face k r f) ≡ (way x k f || way x r f)

-- keep is at the corners where either was
renamed-keep : (k r n : ℕ) → eqb k (renamed k r n) ≡ (eqb k n || eqb r n)
renamed-keep k r n =
    by-test (eqb n r)
    (λ t. rw (t, eq-eqb k k refl, eq-eqb r n (sym (eqb-true n r t)), or-true))
    (λ t. rw (t, ne_eqb r n (λ e. eqb-false n r t (sym e)), or-false))

-- of two points at two places, one is at the first
first-place : (k r n l : ℕ) → k ≢ r → (eqb k n || eqb k l) ≡ true → (eqb r n || eqb r l) ≡ true → (eqb k n || eqb r n) ≡ true
first-place k r n l k_r at-k at-r =
    either-of (eqb k n) (eqb k l) at-k
    (λ t. rw t)
    (λ t. either-of (eqb r n) (eqb r l) at-r (λ u. rw (u, or-true)) (λ u. absurd (k_r (eqb-true k l t ∙ sym (eqb-true r l u)))))

-- two points are not at one place
not-one-place : (k r n : ℕ) → k ≢ r → (eqb k n && eqb r n) ≡ false
not-one-place k r n k_r = false_of (eqb k n && eqb r n) (λ t. let e = ends k r n n t in k_r (e.0 ∙ sym e.1))

-- three tests in a row, the first two the other way round
or_turn : (a b c : Bool) → (a || (b || c)) ≡ (b || (a || c))
or_turn true b c = sym (or-true b)
or_turn false b c = refl

-- from a point
pub way-from : Way runs
way-from =
    record {
      along = runs-both;
      apart = λ v x k r k_r f h.
          by-test (holds x f)
          (λ held. let turn = turn_at v f x h held in rw (turn.from k, turn.from r) (not-one-place k r turn.next k_r))
          (λ none. rw (runs_none x k f none).0);
      third = λ v x k r k_r k-x r-x f h held kr.
          let turn = turn_at v f x h held in
          let two = both_true (holds k f) (holds r f) kr in
          rw (turn.from k, turn.from r)
          (first-place k r turn.next turn.last k_r (sym (turn.others k k-x) ∙ two.0) (sym (turn.others r r-x) ∙ two.1));
      joined = λ k r x x_k x_r f.
          simp (renamed-other k r x x_k x_r, renamed-keep, and-or_distrib_left, or_assoc, or_turn);
    }

-- to a point
pub way-to : Way (λ x y. runs y x)
way-to =
    record {
      along = λ x y f t. and_comm (holds x f) (holds y f) ∙ runs-both y x f t;
      apart = λ v x k r k_r f h.
          by-test (holds x f)
          (λ held. let turn = turn_at v f x h held in rw (turn.to k, turn.to r) (not-one-place k r turn.last k_r))
          (λ none. rw (runs_none x k f none).1);
      third = λ v x k r k_r k-x r-x f h held kr.
          let turn = turn_at v f x h held in
          let two = both_true (holds k f) (holds r f) kr in
          rw (turn.to k, turn.to r)
          (first-place k r turn.last turn.next k_r
          (or_comm (eqb k turn.last) (eqb k turn.next) ∙ sym (turn.others k k-x) ∙ two.0)
          (or_comm (eqb r turn.last) (eqb r turn.next) ∙ sym (turn.others r r-x) ∙ two.1));
      joined = λ k r x x_k x_r f.
          simp (renamed-other k r x x_k x_r, renamed-keep, and-or_distrib_right, or_assoc, or_turn);
    }
