-- A fixed point, of the margin or the border, never moves: it is in no fold, carries after every step what it carried at the start, and is written with its
-- input bits wherever it is still used.
-- Assumes nothing.
use Prim.Native.Nat.{ℕ, ◌*◌, ◌<◌}
use native.Mathlib.Omega.{arith}
use mathlib.Core.Path.{◌≡◌, refl, sym, ap, ◌∙◌}
use mathlib.Core.Logic.{◌≢◌}
use mathlib.Core.List.{List, []}
use mathlib.Core.Bool.{Bool, true, false, ◌&&◌, ◌||◌, cond}
use mathlib.Mathlib.Data.Bool.Basic.{and_elim_right, and_intro, or_inl, or_inr}
use lib.Dec.{ltb}
use lib.ListN.{length}
use lib.Ieee.{Float}
use Rattle.lists.specs.Lists.{some}
use Rattle.lists.proofs.TestLaws.{by-test, either-of}
use Rattle.lists.proofs.BelowLaws.{get_d-each}
use Rattle.placement.specs.declared.Kind.TheVariants.{Free, Border, Margin}
use Rattle.placement.specs.declared.pair.Vertex.{Vertex}
use Rattle.placement.specs.Choices.{fixed}
use Rattle.walk.specs.declared.Closings.{Closings}
use Rattle.walk.specs.declared.Pair.{Pair}
use Rattle.walk.specs.Faces.{holds, border_point, data_of}
use Rattle.walk.specs.Walk.{walk, started, folded}
use Rattle.walk.specs.Output.{used, place_in}
use Rattle.walk.proofs.BorderLaws.{border-below}
use Rattle.walk.proofs.StepLaws.{answer-folded}
use Rattle.walk.proofs.StillLaws.{held-apart, walk-still}
use Rattle.walk.proofs.PlaceLaws.{place-below, get_d-place}
use Rattle.walk.proofs.RenumberLaws.{used-held}
use Rattle.meaning.specs.declared.Answer.{Answer}
use Rattle.std.specs.Prelude.{Ok}
use Rattle.meaning.specs.declared.Task.TheVariants.{Admitted}
use Rattle.meaning.specs.Input.{Input, points_in, point_at, bound_in}
use Rattle.meaning.specs.Answers.{verdict_of}
use Rattle.meaning.specs.Arithmetic.{rules_of}
use Rattle.meaning.specs.Start.{in_margin, start_kind, start_vertex, start_mesh}
use Rattle.meaning.specs.Outcome.{closed_walked, rules_in, start_of, target_of, last_mesh, stuck, fixed_in, stuck_answer, thinned_outcome, Outcome, outcome, outcome_by}
use Rattle.meaning.proofs.MarginVerdictLaws.{named-below}
use Rattle.meaning.specs.Call.{Lent, Answered}
use Rattle.meaning.proofs.PartsLaws.{parts-length, point-over, parts_at}
use Rattle.promises.specs.Steps.{state_at, answer_at, budget_of, carried, given_faces, fixed_point}
use Rattle.promises.specs.Written.{new_number, written_point}
use Rattle.promises.proofs.Admitted.{passed}
use Rattle.promises.proofs.Eligible.{eligible-fit, open-eligible}

-- ---- an answer of 0

-- a walk that is stuck is not answered with 0
stuck-not : (points : ℕ) (closed : Closings) → (stuck_answer points closed).number ≡ 0 → ⊥
stuck-not points closed e = by-test (ltb 0 points) (λ t. omega (arith, rw t at e)) (λ t. omega (arith, rw t at e))

-- where the answer is 0, the outcome is the thinned mesh
pub thinned-is : (i : Input) → verdict_of i ≡ Ok Admitted → (outcome i).answer.number ≡ 0 → outcome i ≡ thinned_outcome i
unfolding outcome outcome_by
thinned-is i admitted done =
    by-test (stuck i)
    (λ t. absurd (stuck-not (fixed_in i) (closed_walked i) (rw (admitted, t) at done)))
    (λ t. rw (admitted, t))

-- ---- the start

-- what the point x carries at the start
abbrev start_of_point : Input → ℕ → Vertex
start_of_point i x = start_vertex i.points (given_faces i) (points_in i) i.options.preserve i.margin x

-- it is what stands there
pub start-carried : (i : Input) (x : ℕ) → x < points_in i → data_of (rules_in i) (start_of i).mesh x ≡ start_of_point i x
unfolding start_of started start_mesh
start-carried i x small = get_d-each (start_of_point i) (points_in i) x (rules_in i).blank small

-- margin and border points are fixed, and free ones are not
either-fixed : (m b : Bool) → fixed (cond m Margin (cond b Border Free)) ≡ (m || b)
either-fixed true b = refl
either-fixed false true = refl
either-fixed false false = refl

-- the kind that the start gives a point is fixed exactly where the point is
pub kind-fixed : (i : Input) (x : ℕ) → fixed (start_of_point i x).kind ≡ fixed_point i x
unfolding start_kind
kind-fixed i x = either-fixed (in_margin i.margin x) (i.options.preserve && border_point (points_in i) (given_faces i) x)

-- so a fixed point is one whose kind at the start is fixed
pub fixed-at-start : (i : Input) (x : ℕ) → x < points_in i → fixed (carried i 0 x).kind ≡ fixed_point i x
unfolding walk
fixed-at-start i x small = ap (λ (d : Vertex). fixed d.kind) (start-carried i x small) ∙ kind-fixed i x

-- every margin point is fixed, with preserve on or off
pub margin-fixed : (i : Input) (x : ℕ) → in_margin i.margin x ≡ true → fixed_point i x ≡ true
margin-fixed i x named = or_inl (in_margin i.margin x) (i.options.preserve && border_point (points_in i) (given_faces i) x) named

-- and every border point, with preserve on
pub border-fixed : (i : Input) (x : ℕ) → i.options.preserve ≡ true → border_point (points_in i) (given_faces i) x ≡ true → fixed_point i x ≡ true
border-fixed i x preserved border =
    or_inr (in_margin i.margin x) (i.options.preserve && border_point (points_in i) (given_faces i) x) (and_intro preserved border)

module _ (i : Input) (admitted : verdict_of i ≡ Ok Admitted) (x : ℕ) (is-fixed : fixed_point i x ≡ true) where
  -- it is a point that there is
  pub fixed-below : x < points_in i
  fixed-below =
      either-of (in_margin i.margin x) (i.options.preserve && border_point (points_in i) (given_faces i) x) is-fixed
      (λ named. named-below (points_in i) i.margin (passed i admitted).entries_good x named)
      (λ held. border-below (points_in i) (given_faces i) x (passed i admitted).faces_proper
      (and_elim_right i.options.preserve (border_point (points_in i) (given_faces i) x) held))

  -- no eligible pair has it
  never : (keep remove : Vertex) → (rules_in i).eligible keep remove ≡ true → (fixed keep.kind ≡ false) × (fixed remove.kind ≡ false)
  unfolding rules_of
  never keep remove e = let fit = eligible-fit i.options.limit (bound_in i) keep remove e in (fit.keep_free, fit.remove_free)

  -- it is fixed at the start
  held_first : fixed (carried i 0 x).kind ≡ true
  held_first = fixed-at-start i x fixed-below ∙ is-fixed

  -- ---- every step

  -- after any number of steps it carries what it carried at the start: its input point, its quadric, and that it is fixed
  pub fixed-never-moves : (n : ℕ) → carried i n x ≡ start_vertex i.points (given_faces i) (points_in i) i.options.preserve i.margin x
  unfolding walk
  fixed-never-moves n =
      walk-still (rules_in i) (λ d. fixed d.kind) never (target_of i) n (start_of i) (open-eligible i 0) x held_first
      ∙ start-carried i x fixed-below

  -- so it is where the input has it
  pub fixed-point-same : (n : ℕ) → (carried i n x).point ≡ point_at i.points x
  fixed-point-same n = ap (λ (d : Vertex). d.point) (fixed-never-moves n)

  -- no fold keeps it and no fold removes it
  pub fixed-never-folded : (n : ℕ) (p : Pair) → answer_at i n ≡ folded p → (p.keep ≢ x) × (p.remove ≢ x)
  fixed-never-folded n p e =
      held-apart (rules_in i) (λ d. fixed d.kind) never (state_at i n) (open-eligible i n) x
      (ap (λ (d : Vertex). fixed d.kind) (fixed-never-moves n) ∙ kind-fixed i x ∙ is-fixed)
      p (answer-folded (rules_in i) (target_of i) (state_at i n) p e).0

  -- ---- the output

  -- the point that is written for its new number has its input bits, where some face that is left holds it
  pub fixed-written :
      (outcome i).answer.number ≡ 0 → some (holds x) (last_mesh i).faces ≡ true
      → written_point i (new_number i x) ≡ point_at i.points x
  unfolding last_mesh
  fixed-written done there =
      let seen = used [] (last_mesh i).faces in
      let here = used-held (last_mesh i).faces x there in
      ap (λ (o : Outcome). point_at o.points (place_in seen x)) (thinned-is i admitted done)
      ∙ parts_at (rules_in i) (last_mesh i) seen (place_in seen x) (place-below seen x here)
      ∙ ap (λ (y : ℕ). (data_of (rules_in i) (last_mesh i) y).point) (get_d-place 0 seen x here)
      ∙ fixed-point-same (budget_of i)

  -- and so it has in the buffer that the caller lent, by whichever engine the call was made
  pub fixed-found : {before after : Lent} {r : Answer} → Answered i before after r → r.number ≡ 0 → some (holds x) (last_mesh i).faces ≡ true →
      point_at after.points (new_number i x) ≡ point_at i.points x
  fixed-found {before} left zero there =
      let done : (outcome i).answer.number ≡ 0 = ap (λ (r : Answer). r.number) (sym left.answered) ∙ zero in
      let seen = used [] (last_mesh i).faces in
      let inside = place-below seen x (used-held (last_mesh i).faces x there) in
      let long : length (outcome i).points ≡ 3 * length seen =
      ap (λ (o : Outcome). length o.points) (thinned-is i admitted done) ∙ parts-length (rules_in i) (last_mesh i) seen in
      ap (λ (cells : List Float). point_at cells (new_number i x)) left.points_written
      ∙ point-over (outcome i).points before.points (new_number i x) (omega arith)
      ∙ fixed-written done there

-- ---- in so many words of the margin, whatever preserve is

module _ (i : Input) (admitted : verdict_of i ≡ Ok Admitted) (x : ℕ) (named : in_margin i.margin x ≡ true) where
  -- a point that the margin names is after every step where the input has it
  pub margin-point-same : (n : ℕ) → (carried i n x).point ≡ point_at i.points x
  margin-point-same = fixed-point-same i admitted x (margin-fixed i x named)

  -- and is written with its input bits, where some face that is left holds it
  pub margin-written :
      (outcome i).answer.number ≡ 0 → some (holds x) (last_mesh i).faces ≡ true
      → written_point i (new_number i x) ≡ point_at i.points x
  margin-written = fixed-written i admitted x (margin-fixed i x named)

  pub margin-found : {before after : Lent} {r : Answer} → Answered i before after r → r.number ≡ 0 → some (holds x) (last_mesh i).faces ≡ true →
      point_at after.points (new_number i x) ≡ point_at i.points x
  margin-found = fixed-found i admitted x (margin-fixed i x named)
