-- An outcome's mesh fits where the input's did: it has no more points and no more faces, and where the input's coordinates are f32s, so are its own.
-- Where it has a face it has a point.
-- Assumes nothing.
use Prim.Native.Nat.{ℕ, ◌≤◌, ◌<◌}
use native.Mathlib.Omega.{arith}
use mathlib.Core.Path.{◌≡◌, refl, ◌∙◌}
use mathlib.Core.List.{List, [], ◌∷◌, map}
use mathlib.Core.Bool.{Bool, true, false, ◌&&◌, cond, false≢true}
use mathlib.Mathlib.Data.Bool.Basic.{and_elim_left}
use lib.Dec.{T, ltb}
use lib.ListN.{length, get_or}
use lib.Ieee.{Float, nan, binary32, fits, of_bits}
use lib.Ieee.Fits.{mul-fits, nan-fits}
use lib.Ieee.Bits.{is_true, of_bits-fits}
use denote.Floats.{passes}
use Rattle.std.specs.Prelude.{Option, Some, None, option_map, unwrap_or}
use Rattle.lists.specs.Lists.{every, some}
use Rattle.lists.proofs.TestLaws.{by-test, both_true}
use Rattle.lists.proofs.EveryLaws.{every-head, every-default, every_set, every-implies, every_map, every-all}
use Rattle.lists.proofs.BelowLaws.{every-below}
use Rattle.bits.proofs.NarrowLaws.{narrowed-fits}
use Rattle.geometry.specs.declared.Point.{Point}
use Rattle.geometry.specs.declared.Quadric.{Quadric}
use Rattle.geometry.specs.Points.{middle}
use Rattle.placement.specs.declared.inverse.Rows.{Rows}
use Rattle.placement.specs.declared.pair.Vertex.{Vertex}
use Rattle.placement.specs.Errors.{error_at}
use Rattle.placement.specs.Inverses.{inverse}
use Rattle.placement.specs.Places.{upper_left, solved_by, solved, stands, tested, cost_below, cheaper, fallback, place_of}
use Rattle.placement.specs.Pairs.{pair_place}
use Rattle.walk.specs.declared.Face.{Face}
use Rattle.walk.specs.Faces.{proper, Mesh, data_of, merged_of}
use Rattle.walk.specs.Fold.{folded_mesh}
use Rattle.walk.specs.Walk.{State, StepAnswer, folded, closed, ended, started, answer, after, plain_machine}
use Rattle.walk.specs.Output.{used}
use Rattle.walk.proofs.MachineLaws.{walk-keeps}
use Rattle.walk.proofs.WalkLaws.{walk-fewer}
use Rattle.walk.proofs.PlaceLaws.{has}
use Rattle.walk.proofs.RenumberLaws.{corners, used-has, length-used-below}
use Rattle.std.specs.Prelude.{Ok, Err}
use Rattle.meaning.specs.declared.Task.TheVariants.{Copied, Admitted}
use Rattle.meaning.specs.Arithmetic.{merged_vertex, rules_of}
use Rattle.meaning.specs.Start.{start_mesh}
use Rattle.meaning.specs.Input.{Input, points_in, faces_in}
use Rattle.meaning.specs.Answers.{Verdict, verdict_of}
use Rattle.meaning.specs.Outcome.{Outcome, rules_in, start_of, target_of, last_mesh, parts_in, stuck, fixed_in, stuck_answer, thinned_outcome, outcome_by, outcome, closed_walked}
use Rattle.promises.specs.Steps.{state_at, budget_of}
use Rattle.promises.proofs.Ended.{start-count, start-sound, states-sound, states-points}
use Rattle.checks.proofs.VerdictLaws as verdicts
use Rattle.replies.proofs.OutcomeLaws.{thinned-counted}

-- ---- points of f32s

-- a float is an f32, and so is every part of a point, of a point with all that it carries, and of a point where there is one
abbrev pub single : Float → Bool
single x = fits binary32 x

abbrev single_point : Point → Bool
single_point p = single p.x && single p.y && single p.z

abbrev single_vertex : Vertex → Bool
single_vertex v = single_point v.point

abbrev single_found : Option Point → Bool
single_found (Some p) = single_point p
single_found None = true

-- three of them
three-single : (x y z : Float) → T (single x) → T (single y) → T (single z) → (single x && single y && single z) ≡ true
three-single x y z h k l = rw (is_true (single x) h, is_true (single y) k, is_true (single z) l)

-- in a list of f32s
pub each-single : (xs : List Float) → every single xs ≡ true → (k : ℕ) → T (single (get_or xs k nan))
each-single xs all k = passes _ (every-default single nan xs all (is_true (single nan) (nan-fits binary32)) k)

-- patterns are read as f32s
pub read-single : (ns : List ℕ) → every single (map (of_bits binary32) ns) ≡ true
read-single ns = every_map single (of_bits binary32) ns ∙ every-all (λ n. single (of_bits binary32 n)) (λ n. is_true _ (of_bits-fits binary32 n)) ns

-- the solved point is narrowed
solved-single : (q : Quadric) → single_found (solved q) ≡ true
unfolding solved
solved-single q = go (inverse (upper_left q))
  where
    go : (rows : Option Rows) → single_found (option_map (solved_by q) rows) ≡ true
    go (Some r) = three-single _ _ _ (narrowed-fits _) (narrowed-fits _) (narrowed-fits _)
    go None = refl

-- the middle is a product
middle-single : (p r : Point) → single_point (middle p r) ≡ true
middle-single p r = three-single _ _ _ (mul-fits binary32 _ _) (mul-fits binary32 _ _) (mul-fits binary32 _ _)

-- a solved point that was tested, or another point where there is none
tested-single : (bound length : Float) (keep other : Point) (found : Option Point) → single_found found ≡ true → single_point other ≡ true →
    single_point (unwrap_or (tested bound length keep found) other) ≡ true
unfolding tested
tested-single bound length keep other None h k = k
tested-single bound length keep other (Some p) h k = by-test (stands bound length keep p) (λ t. rw t h) (λ t. rw t k)

-- the cheaper of two points
cheaper-single : (q : Quadric) (p r : Point) → single_point p ≡ true → single_point r ≡ true → single_point (cheaper q p r) ≡ true
unfolding cheaper
cheaper-single q p r h k = by-test (cost_below (error_at q r) (error_at q p)) (λ t. rw t k) (λ t. rw t h)

-- the place of a pair
place-single : (bound length : Float) (q : Quadric) (keep remove : Point) → single_point keep ≡ true → single_point remove ≡ true →
    single_point (place_of bound length q keep remove) ≡ true
unfolding place_of fallback
place-single bound length q keep remove h k =
    tested-single bound length keep (fallback q keep remove) (solved q) (solved-single q)
    (cheaper-single q (cheaper q keep remove) (middle keep remove) (cheaper-single q keep remove h k) (middle-single keep remove))

-- ---- the walk of an input of f32s

module _ (i : Input) where
  -- what no number names
  blank-single : single_vertex (rules_in i).blank ≡ true
  unfolding rules_of of_bits fits
  blank-single = refl

  -- what a point carries
  data-single : (m : Mesh Vertex) → every single_vertex m.points ≡ true → (x : ℕ) → single_vertex (data_of (rules_in i) m x) ≡ true
  data-single m all x = every-default single_vertex (rules_in i).blank m.points all blank-single x

  -- what keep carries after a fold
  merged-single : (keep remove : Vertex) → single_vertex keep ≡ true → single_vertex remove ≡ true → single_vertex ((rules_in i).merged keep remove) ≡ true
  unfolding rules_of merged_vertex pair_place
  merged-single keep remove h k = place-single _ _ _ keep.point remove.point h k

  -- after an answer
  after-single : (s : State Vertex) (a : StepAnswer) → every single_vertex s.mesh.points ≡ true →
      every single_vertex (after (rules_in i) s a).mesh.points ≡ true
  unfolding after folded_mesh
  after-single s (folded p) all =
      every_set single_vertex s.mesh.points p.keep (merged_of (rules_in i) s.mesh p) all
      (merged-single _ _ (data-single s.mesh all p.keep) (data-single s.mesh all p.remove))
  after-single s (closed p reason) all = all
  after-single s ended all = all

  -- the parts of points of a mesh
  parts-single : (m : Mesh Vertex) → every single_vertex m.points ≡ true → (xs : List ℕ) → every single (parts_in (rules_in i) m xs) ≡ true
  unfolding parts_in every
  parts-single m all [] = refl
  parts-single m all (x ∷ xs) =
      let at = (data_of (rules_in i) m x).point in
      let three : single_point at ≡ true = data-single m all x in
      let z = both_true (single at.x && single at.y) (single at.z) three in
      let xy = both_true (single at.x) (single at.y) z.0 in
      rw (xy.0, xy.1, z.1, parts-single m all xs)

  module _ (all : every single i.points ≡ true) where
    -- at the start
    start-single : every single_vertex (start_of i).mesh.points ≡ true
    unfolding start_of started start_mesh
    start-single =
        every-below single_vertex _ (points_in i)
        (λ x inside. three-single _ _ _ (each-single i.points all _) (each-single i.points all _) (each-single i.points all _))

    -- at the end
    last-single : every single_vertex (last_mesh i).points ≡ true
    unfolding last_mesh
    last-single =
        walk-keeps (plain_machine (rules_in i) (target_of i)) (λ s. every single_vertex s.mesh.points ≡ true)
        (λ s. after-single s (answer (rules_in i) (target_of i) s)) (budget_of i) (start_of i) start-single

-- ---- how many

-- a list that has a number is not empty
has_some : (xs : List ℕ) (x : ℕ) → has xs x ≡ true → 0 < length xs
unfolding some
has_some [] x h = absurd (false≢true h)
has_some (y ∷ ys) x h = omega arith

-- faces have points
used-some : (fs : List Face) → 0 < length fs → 0 < length (used [] fs)
used-some [] h = omega arith
used-some (f ∷ fs) h =
    let seen = used [] (f ∷ fs) in
    has_some seen f.a (and_elim_left _ _ (and_elim_left _ _ (every-head (corners (has seen)) f fs (used-has [] (f ∷ fs)))))

module _ (i : Input) (admitted : verdict_of i ≡ Ok Admitted) where
  -- no more faces than there were
  last-faces : length (last_mesh i).faces ≤ faces_in i
  unfolding last_mesh
  last-faces = omega (arith, walk-fewer (rules_in i) (target_of i) (budget_of i) (start_of i) (start-sound i admitted), start-count i)

  -- no more points
  last-points : length (used [] (last_mesh i).faces) ≤ points_in i
  unfolding last_mesh
  last-points =
      let v = length (state_at i (budget_of i)).mesh.points in
      let below = every-implies (proper v) (corners (λ x. ltb x v)) (λ f h. and_elim_left _ _ (and_elim_left _ _ (and_elim_left _ _ h)))
      (state_at i (budget_of i)).mesh.faces (states-sound i admitted (budget_of i)).faces_proper in
      omega (arith, length-used-below v (state_at i (budget_of i)).mesh.faces below, states-points i admitted (budget_of i))

-- ---- any outcome

-- a mesh with at most so many coordinates, all f32s, and at most so many numbers in its faces, which have points
pub record Fit (points faces : ℕ) (o : Outcome) : Type 0 where
  pub points_most : length o.points ≤ points
  pub faces_most : length o.faces ≤ faces
  pub points_some : 0 < length o.faces → 0 < length o.points
  pub floats : every single o.points ≡ true

module _ (i : Input) (all : every single i.points ≡ true) where
  -- a mesh that was thinned
  thinned-fit : verdict_of i ≡ Ok Admitted → Fit (length i.points) (length i.faces) (thinned_outcome i)
  thinned-fit admitted =
      let faces = (last_mesh i).faces in
      let sizes = thinned-counted i in
      record {
        points_most = omega (arith, sizes.points, last-points i admitted);
        faces_most = omega (arith, sizes.faces, last-faces i admitted);
        points_some = λ h. omega (arith, sizes.points, used-some faces (omega (arith, sizes.faces)));
        floats = parts-single i (last_mesh i) (last-single i all) (used [] faces);
      }

  -- by the verdict
  by-verdict : (d : Verdict) → verdict_of i ≡ d → Fit (length i.points) (length i.faces) (outcome_by d i)
  unfolding outcome_by every
  by-verdict (Err why) e = record { points_most = omega arith; faces_most = omega arith; points_some = λ h. h; floats = refl }
  by-verdict (Ok Copied) e =
      let sized = (verdicts.copied i e).sized in
      record { points_most = omega arith; faces_most = omega arith; points_some = λ h. omega (arith, sized.points_some); floats = all }
  by-verdict (Ok Admitted) e = by (stuck i)
    where
      by : (held : Bool) →
          Fit (length i.points) (length i.faces)
          (cond held (record { answer = stuck_answer (fixed_in i) (closed_walked i); points = []; faces = []; worked = true }) (thinned_outcome i))
      by true = record { points_most = omega arith; faces_most = omega arith; points_some = λ h. h; floats = refl }
      by false = thinned-fit e

  -- no more points and faces than the input has, the coordinates f32s
  pub outcome-fit : Fit (length i.points) (length i.faces) (outcome i)
  unfolding outcome
  outcome-fit = by-verdict (verdict_of i) refl
