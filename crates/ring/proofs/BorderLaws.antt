-- The marks of the faces around a point count its shared faces, so a single mark tells a border point.
-- Assumes nothing.
use Prim.Native.Nat.{ℕ, ◌<◌}
use native.Mathlib.Omega.{arith}
use mathlib.Core.Path.{◌≡◌, refl, sym, ap, ◌∙◌}
use mathlib.Core.List.{List}
use mathlib.Core.Bool.{Bool, true, false, not, ◌&&◌, ◌||◌}
use mathlib.Mathlib.Data.Bool.Basic.{and_elim_left, and_elim_right, or_inl, or_inr}
use lib.Dec.{ltb, eqb}
use borrow.Author.Tests.{eqb-true, ltb-true, lt-ltb}
use Rattle.walk.specs.declared.Face.{Face}
use Rattle.lists.specs.Lists.{some, below, stretch}
use Rattle.walk.specs.Faces.{holds, shared, border_edge, border_point, face_at}
use Rattle.lists.proofs.TestLaws.{by-test, same_test}
use Rattle.lists.proofs.EveryLaws.{some-from, every_some, some-implies}
use Rattle.lists.proofs.BelowLaws.{length-below, get_d-below, all-below}
use Rattle.memory.specs.Memory.{lives, live_faces, mark, Proper, live_at}
use Rattle.lists.specs.Frames.{But}
use Rattle.mesh.specs.Clauses.Chains.{Tidy}
use Rattle.mesh.specs.Clauses.Around.{Gathered, Collected, Marked, Cleared}
use Rattle.ring.specs.Clauses.Marking.{Around, single, some_point}
use Rattle.lists.proofs.FrameLaws.{but-widen}
use Rattle.walk.proofs.FaceLaws.{Corners, corners, at-corner}
use Rattle.mesh.proofs.AroundLaws.{live-faces-but}
use Rattle.ring.proofs.SlotLaws.{proper-but}
use Rattle.ring.proofs.LiveLaws.{some-gathered}
use Rattle.ring.proofs.MarkLaws.{remarked-none}
use Rattle.ring.proofs.AroundLaws.{gathered-tidy, gathered-around, marks-shared, around-marked, cleared-back}
use Rattle.memory.specs.Layout.{far_from, near_from}

-- ---- a point of a face

-- a point that passes is one of the three
found-point : (v : ℕ) (test : ℕ → Bool) (p : Face) → Corners v p → some_point test p ≡ true → (u : ℕ) × (u < v) × (test u ≡ true)
found-point v test p q h =
    by-test (test p.a)
    (λ a. (p.a, q.a_below, a))
    (λ a. by-test (test p.b) (λ b. (p.b, q.b_below, b)) (λ b. (p.c, q.c_below, rw (a, b) at h)))

-- a point that a face holds is one of the three
held-point : (test : ℕ → Bool) (u : ℕ) (p : Face) → test u ≡ true → holds u p ≡ true → some_point test p ≡ true
held-point test u p pass h =
    at-corner u p h
    (λ a. or_inl _ (test p.c) (or_inl _ (test p.b) (rw a at pass)))
    (λ b. or_inl _ (test p.c) (or_inr (test p.a) _ (rw b at pass)))
    (λ c. or_inr (test p.a || test p.b) _ (rw c at pass))

-- the points of a face that was read, tried one after another
module _ (test : ℕ → Bool) {p q : Face} (read : p ≡ q) {a : Bool} (first : a ≡ test p.a) where
  pub first_passes : a ≡ true → true ≡ some_point test q
  first_passes e = rw (sym first ∙ e) at (ap (some_point test) read)

  module _ (not_first : a ≡ false) {b : Bool} (second : b ≡ test p.b) where
    pub second-passes : b ≡ true → true ≡ some_point test q
    second-passes e = rw (sym first ∙ not_first, sym second ∙ e) at (ap (some_point test) read)

    pub third-decides : b ≡ false → {c : Bool} → c ≡ test p.c → c ≡ some_point test q
    third-decides e {c} third = third ∙ (rw (sym first ∙ not_first, sym second ∙ e) at (ap (some_point test) read))

some_below : (test : ℕ → Bool) (n u : ℕ) → u < n → test u ≡ true → some test (below n) ≡ true
some_below test n u l pass = some-from test 0 (below n) u (rw length-below l) (rw (get_d-below n u l) pass)

-- ---- border points

module _ {v f : ℕ} {w : List ℕ} {x base n : ℕ} (all : Proper v f w) (h : Gathered v f w x base n)
    (marks : (u : ℕ) → u < v → mark v f w u ≡ shared (live_faces f w) x u) where
  edge : (u : ℕ) → u < v → single v f w x u ≡ border_edge (live_faces f w) x u
  edge u l = rw (marks u l)

  -- a single mark is a border edge
  there : some (λ k. some_point (single v f w x) (face_at w k)) (stretch w base n) ≡ true → border_point v (live_faces f w) x ≡ true
  unfolding border_point
  there e =
      let (k, live, found) = every_some (λ k. ltb k f && live_at f w x k) (λ k. some_point (single v f w x) (face_at w k)) _ h.slots_live e in
      let small : k < f = ltb-true k f (and_elim_left (ltb k f) (live_at f w x k) live) in
      let alive : lives f w k ≡ true = and_elim_left (lives f w k) _ (and_elim_right (ltb k f) (live_at f w x k) live) in
      let (u, l, pass) = found-point v (single v f w x) (face_at w k) (corners v (face_at w k) (all k small alive)) found in
      some_below (border_edge (live_faces f w) x) v u l (sym (edge u l) ∙ pass)

  -- a border edge is a single mark
  back : border_point v (live_faces f w) x ≡ true → some (λ k. some_point (single v f w x) (face_at w k)) (stretch w base n) ≡ true
  unfolding border_point
  back e =
      let (u, inside, pass) = every_some (λ u. ltb u v) (border_edge (live_faces f w) x) (below v) (all-below v) e in
      let one : shared (live_faces f w) x u ≡ 1 = eqb-true (shared (live_faces f w) x u) 1 (and_elim_right (not (eqb x u)) _ pass) in
      some-implies (λ k. holds u (face_at w k)) (λ k. some_point (single v f w x) (face_at w k))
      (λ k. held-point (single v f w x) u (face_at w k) (edge u (ltb-true u v inside) ∙ pass))
      (stretch w base n) (some-gathered h u ∙ lt-ltb 0 (shared (live_faces f w) x u) (omega arith))

  border-single : some (λ k. some_point (single v f w x) (face_at w k)) (stretch w base n) ≡ border_point v (live_faces f w) x
  border-single = same_test _ _ there back

-- a single mark, where the faces around x have marked their points
pub border-marked : {v f : ℕ} {w w₁ : List ℕ} {x base n : ℕ} → Tidy v f w → Around v f w x base n → Marked v f w base n w₁ →
    some (λ k. some_point (single v f w₁ x) (face_at w₁ k)) (stretch w₁ base n) ≡ border_point v (live_faces f w) x
border-marked {v} {f} {w} {w₁} {x} {base} {n} t a m =
    let same : live_faces f w₁ ≡ live_faces f w = live-faces-but f m.but (omega arith) in
    border-single (proper-but f m.but (omega arith) v t.faces_proper) (around-marked t a m).gathered
    (λ u l. rw same (marks-shared t a m u l))
    ∙ ap (λ (faces : List Face). border_point v faces x) same

-- gathered, marked, looked at, cleared
pub border-known : {v f : ℕ} {w w₁ w₂ w₃ : List ℕ} {x base n : ℕ} {r : Bool} → Tidy v f w →
    base ≡ near_from v f → Collected v f w x base w₁ n → Marked v f w₁ base n w₂ →
    r ≡ some (λ k. some_point (single v f w₂ x) (face_at w₂ k)) (stretch w₂ base n) → Cleared v f w₂ base n w₃ →
    (r ≡ border_point v (live_faces f w) x) × But (near_from v f) (far_from v f) w w₃
border-known {v} {f} {w} {w₁} {w₂} {w₃} {x} {base} {n} t here h m answer cleared =
    let t₁ : Tidy v f w₁ = gathered-tidy t here h in
    let a : Around v f w₁ x base n = gathered-around t here h in (
      answer ∙ border-marked t₁ a m ∙ ap (λ (faces : List Face). border_point v faces x) (live-faces-but f h.but (omega arith)),
      rw (cleared-back t₁ a m (remarked-none w₂) (λ u. refl) cleared) (but-widen (omega arith) (omega arith) h.but),
    )
