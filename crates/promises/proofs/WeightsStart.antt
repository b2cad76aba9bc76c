-- At the start a point's weight is the number of faces that hold it: its quadric has one bounded plane's for each, and three points a face make the sum.
-- Assumes nothing.
use Prim.Native.Nat.{ℕ, ◌+◌, ◌*◌, ◌^◌, ◌≤◌, ◌<◌}
use native.Mathlib.Nat.{le_trans, le_of_eq, add_assoc, add-zero, zero-add}
use native.Mathlib.Omega.{arith}
use mathlib.Core.Path.{◌≡◌, subst}
use mathlib.Core.List.{List, [], ◌∷◌}
use mathlib.Core.Bool.{Bool, true, false, ◌||◌, cond}
use lib.Dec.{ltb, eqb}
use lib.ListN.{length}
use lib.Ieee.{Float, binary64}
use Rattle.lists.specs.Lists.{sum, count, every, below}
use Rattle.lists.proofs.TestLaws.{by-test, flag-le}
use Rattle.lists.proofs.SumLaws.{sum-add, sum_mono, sum-swap, sum-times}
use Rattle.lists.proofs.EveryLaws.{every-head, every-tail, count_most}
use Rattle.lists.proofs.BelowLaws.{sum-pick, length-each, get_d-each}
use Rattle.geometry.specs.declared.Quadric.{Quadric}
use Rattle.geometry.specs.Quadrics.{zero_quadric}
use Rattle.walk.specs.declared.Face.{Face}
use Rattle.walk.specs.Faces.{holds, proper, face_at, faces_of}
use Rattle.walk.specs.Walk.{started}
use Rattle.walk.proofs.FaceLaws.{corners}
use Rattle.std.specs.Prelude.{Ok}
use Rattle.meaning.specs.declared.Task.TheVariants.{Admitted}
use Rattle.meaning.specs.Input.{Input, points_in, faces_in, point_at, bound_in}
use Rattle.meaning.specs.Start.{face_quadric, gathered, start_vertex, start_mesh}
use Rattle.meaning.specs.Answers.{verdict_of}
use Rattle.meaning.specs.Outcome.{rules_in, start_of}
use Rattle.promises.proofs.Floats.{has-power}
use Rattle.promises.specs.Finite.{small_point}
use Rattle.promises.proofs.Bounded.{Within, small-within, within_wider}
use Rattle.promises.proofs.Admitted.{passed}
use Rattle.promises.proofs.Finite.{power_within, power_in, power-most, point-small}
use Rattle.promises.proofs.ErrorsPlanes.{plane-within}
use Rattle.promises.proofs.ErrorsQuadrics.{QuadricWithin, zero-within, plane-quadric, sum-within}
use Rattle.promises.proofs.Weights.{Weighed}

-- ---- the sum of the weights

-- a face holds at most three points
three-held : (v : ℕ) (f : Face) → sum (λ x. cond (holds x f) 1 0) (below v) ≤ 3
three-held v f =
    le_trans
    (sum_mono (λ x. cond (holds x f) 1 0) (λ x. at f.a x + at f.b x + at f.c x) (λ x. split (eqb x f.a) (eqb x f.b) (eqb x f.c)) (below v))
    (rw (sum-add (λ x. at f.a x + at f.b x) (at f.c) (below v), sum-add (at f.a) (at f.b) (below v))
    (omega (arith, single f.a, single f.b, single f.c)))
  where
    at : ℕ → ℕ → ℕ
    at c x = cond (eqb x c) 1 0

    split : (a b c : Bool) → cond (a || b || c) 1 0 ≤ cond a 1 0 + cond b 1 0 + cond c 1 0
    split true b c = omega arith
    split false true c = omega arith
    split false false true = omega arith
    split false false false = omega arith

    single : (c : ℕ) → sum (at c) (below v) ≤ 1
    single c = rw (sum-pick (λ x. 1) c v) (flag-le (ltb c v))

-- so all points are held by at most three times as many faces as there are
three-each : (v : ℕ) (faces : List Face) → sum (λ x. count (holds x) faces) (below v) ≤ 3 * length faces
three-each v faces =
    le_trans (le_of_eq (sum-swap (λ x f. cond (holds x f) 1 0) (below v) faces))
    (le_trans (sum_mono (λ f. sum (λ x. cond (holds x f) 1 0) (below v)) (λ f. 3) (three-held v) faces) (le_of_eq (sum-times 3 faces)))

-- ---- the quadrics

module _ (points : List Float) (v : ℕ) (near : (x : ℕ) → x < v → Within 1 20 (point_at points x)) where
  -- of a face's plane
  face-within : (f : Face) → proper v f ≡ true → QuadricWithin 1 194 (face_quadric points f)
  face-within f good =
      let at = corners v f good in
      plane-quadric {k = 1} {g = 97} (has-power binary64 1 194 0 (omega arith) (omega arith) (omega arith))
      (plane-within (near f.a at.a_below) (near f.b at.b_below) (near f.c at.c_below))

  -- and of a point, with those of the faces that hold it added
  gathered-within :
      (x k : ℕ) (q : Quadric) (fs : List Face) → every (proper v) fs ≡ true → k + count (holds x) fs ≤ 2 ^ 20
      → QuadricWithin k 194 q → QuadricWithin (k + count (holds x) fs) 194 (gathered points x q fs)
  unfolding gathered sum
  gathered-within x k q [] all few h = rw add-zero h
  gathered-within x k q (f ∷ fs) all few h =
      by-test (holds x f)
      (λ t.
      let room : k + (1 + count (holds x) fs) ≤ 2 ^ 20 = rw t at few in
      rw (t, ← add_assoc k 1 (count (holds x) fs))
      (gathered-within x (k + 1) _ fs (every-tail (proper v) f fs all) (omega arith)
      (sum-within (has-power binary64 (k + 1) 194 20 (omega arith) (omega arith) (omega arith)) h (face-within f (every-head (proper v) f fs all)))))
      (λ t.
      let room : k + (0 + count (holds x) fs) ≤ 2 ^ 20 = rw t at few in
      rw (t, zero-add (count (holds x) fs)) (gathered-within x k q fs (every-tail (proper v) f fs all) (omega arith) h))

-- ---- the start of an admitted mesh

module _ (i : Input) (admitted : verdict_of i ≡ Ok Admitted) where
  -- its points are at most 2^20 in size
  start-near : (x : ℕ) → x < points_in i → Within 1 20 (point_at i.points x)
  start-near x inside =
      within_wider (power-most i)
      (small-within (power_within i) (point_at i.points x)
      (subst (λ (c : Float). small_point c (point_at i.points x) ≡ true) (power_in i) (point-small i (passed i admitted).coordinates_small x inside)))

  -- as many faces as the input has
  faces-long : length (faces_of (faces_in i) i.faces) ≡ faces_in i
  faces-long = length-each (face_at i.faces) (faces_in i)

  -- the weights of the start
  pub start-weighed : Weighed i.options.limit (bound_in i) (start_of i).mesh
  unfolding start_of started start_mesh
  start-weighed =
      let faces = faces_of (faces_in i) i.faces in
      let checked = passed i admitted in
      let vertex = start_vertex i.points faces (points_in i) i.options.preserve i.margin in
      let long = length-each vertex (points_in i) in
      record {
        weight = λ x. count (holds x) faces;
        total = rw long (omega (arith, three-each (points_in i) faces, faces-long, checked.faces_most));
        parts = λ x x-v x-held.
            let inside : x < points_in i = rw long at x-v in
            rw (get_d-each vertex (points_in i) x (rules_in i).blank inside)
            (rw zero-add at (gathered-within i.points (points_in i) start-near x 0 zero_quadric faces checked.faces_proper
            (omega (arith, count_most (holds x) faces, faces-long, checked.faces_most)) zero-within));
      }
