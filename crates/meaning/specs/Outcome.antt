-- The answer of a call and what comes out, for any input (document 01, "Answer numbers" and "Pairs, folds, ends"; document 02, wishes 2 to 4).
use Rattle.std.specs.Prelude.{ℕ, List, [], ◌∷◌, Bool, true, false, ◌&&◌, cond, ltb, eqb, length, get_or, Float, Ok, Err}
use Rattle.bits.specs.Cut.{target}
use Rattle.placement.specs.declared.pair.Vertex.{Vertex}
use Rattle.walk.specs.declared.Pair.{Pair}
use Rattle.walk.specs.Faces.{faces_of, Rules, Mesh}
use Rattle.walk.specs.declared.Closings.{Closings}
use Rattle.walk.specs.Walk.{walk, fold_list, reason_list, State, started, budget, plain_machine}
use Rattle.walk.specs.Closings.{closings_of, none_closed}
use Rattle.walk.specs.Output.{used, renumbered, numbers_of}
use Rattle.meaning.specs.Start.{fixed_count, start_mesh}
use Rattle.meaning.specs.Arithmetic.{rules_of}
use Rattle.meaning.specs.declared.Task.TheVariants.{Copied, Admitted}
use Rattle.meaning.specs.Input.{Input, points_in, faces_in, bound_in}
use Rattle.meaning.specs.Answers.{number_of, place_of, Verdict, verdict_of}
use Rattle.meaning.specs.declared.Answer.{Answer}

-- ---- the walk of an admitted mesh

-- the rules that the input's limit and its unit's bound make
abbrev pub rules_in : Input → Rules Vertex
rules_in i = rules_of i.options.limit (bound_in i)

-- the state at the start
unfoldable pub start_of : Input → State Vertex
start_of i = started (rules_in i) (start_mesh (points_in i) (faces_in i) i.points i.faces i.options.preserve i.margin)

-- the number of faces to reach
unfoldable pub target_of : Input → ℕ
target_of i = target i.options.ratio (faces_in i)

-- the mesh at the end, on a budget that is always enough
unfoldable pub last_mesh : Input → Mesh Vertex
last_mesh i = (walk (plain_machine (rules_in i) (target_of i)) (budget (faces_in i) (start_of i)) (start_of i)).mesh

-- the folds in order
unfoldable pub folds_walked : Input → List Pair
folds_walked i = fold_list (plain_machine (rules_in i) (target_of i)) (budget (faces_in i) (start_of i)) (start_of i)

-- how many pairs were closed for each reason
unfoldable pub closed_walked : Input → Closings
closed_walked i = closings_of (reason_list (plain_machine (rules_in i) (target_of i)) (budget (faces_in i) (start_of i)) (start_of i))

-- no fold was made, and there are more faces than the target
abbrev pub stuck : Input → Bool
stuck i = eqb (length (folds_walked i)) 0 && ltb (target_of i) (faces_in i)

-- how many points of the input are fixed
abbrev pub fixed_in : Input → ℕ
fixed_in i = fixed_count (points_in i) (faces_of (faces_in i) i.faces) i.options.preserve i.margin

-- ---- what comes out

-- the parts of the points of a list of numbers, three to a point
unfoldable pub parts_in : Rules Vertex → Mesh Vertex → List ℕ → List Float
parts_in rules m [] = []
parts_in rules m (x ∷ xs) =
    let at = (get_or m.points x rules.blank).point in at.x ∷ at.y ∷ at.z ∷ parts_in rules m xs

-- An answer, the parts of points and the numbers of faces written, and whether the work memory is zeroed.
pub record Outcome : Type 0 where
  pub answer : Answer
  pub points : List Float
  pub faces : List ℕ
  pub worked : Bool

-- an answer without a mesh has zeros for it
abbrev pub without_mesh : ℕ → ℕ → Closings → Answer
without_mesh number place closed = record { number = number; place = place; points = 0; faces = 0; folds = 0; closed = closed }

-- without a walk no pair is closed
abbrev pub refusal : ℕ → ℕ → Answer
refusal number place = without_mesh number place none_closed

-- 10 where points are fixed, and their number is its place; else 11. Both say why pairs were closed
abbrev pub stuck_answer : ℕ → Closings → Answer
stuck_answer fixed closed = cond (ltb 0 fixed) (without_mesh 10 fixed closed) (without_mesh 11 0 closed)

-- live faces in face order, points numbered by first use
abbrev pub thinned_outcome : Input → Outcome
thinned_outcome i =
    let faces = (last_mesh i).faces in
    record {
      answer =
          record {
            number = 0;
            place = 0;
            points = length (used [] faces);
            faces = length faces;
            folds = length (folds_walked i);
            closed = closed_walked i;
          };
      points = parts_in (rules_in i) (last_mesh i) (used [] faces);
      faces = numbers_of (renumbered faces);
      worked = true;
    }

-- the outcome of an input, by what the checks say of it
unfoldable pub outcome_by : Verdict → Input → Outcome
outcome_by (Err why) i = record { answer = refusal (number_of why) (place_of why); points = []; faces = []; worked = false }
outcome_by (Ok Copied) i =
    record {
      answer = record { number = 0; place = 0; points = points_in i; faces = faces_in i; folds = 0; closed = none_closed };
      points = i.points;
      faces = i.faces;
      worked = true;
    }
outcome_by (Ok Admitted) i =
    cond (stuck i)
    (record { answer = stuck_answer (fixed_in i) (closed_walked i); points = []; faces = []; worked = true })
    (thinned_outcome i)

-- the outcome of an input
unfoldable pub outcome : Input → Outcome
outcome i = outcome_by (verdict_of i) i

-- ---- the folds made

-- the folds of an input, by what the checks say of it: none where it isn't walked
unfoldable pub folds_by : Verdict → Input → List Pair
folds_by (Err why) i = []
folds_by (Ok Copied) i = []
folds_by (Ok Admitted) i = folds_walked i

-- the folds of an input, in order
unfoldable pub folds_of : Input → List Pair
folds_of i = folds_by (verdict_of i) i

-- keep and remove of each
unfoldable pub pair_numbers : List Pair → List ℕ
pair_numbers [] = []
pair_numbers (x ∷ xs) = x.keep ∷ x.remove ∷ pair_numbers xs
