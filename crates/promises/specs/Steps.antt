-- The walk of an input, step by step: the state after n steps, what it answers, and what the points carry there.
use Rattle.std.specs.Prelude.{ℕ, List, Bool, ◌&&◌, ◌||◌}
use Rattle.geometry.specs.declared.Point.{Point}
use Rattle.geometry.specs.Points.{normal}
use Rattle.placement.specs.declared.pair.Vertex.{Vertex}
use Rattle.walk.specs.declared.Face.{Face}
use Rattle.walk.specs.declared.Pair.{Pair}
use Rattle.walk.specs.Faces.{faces_of, border_point, data_of}
use Rattle.walk.specs.declared.Reason.{Reason}
use Rattle.walk.specs.Walk.{walk, fold_list, reason_list, State, StepAnswer, answer, budget, plain_machine}
use Rattle.meaning.specs.Input.{Input, points_in, faces_in}
use Rattle.meaning.specs.Start.{in_margin}
use Rattle.meaning.specs.Outcome.{rules_in, start_of, target_of}

-- the state after n steps
abbrev pub state_at : Input → ℕ → State Vertex
state_at i n = walk (plain_machine (rules_in i) (target_of i)) n (start_of i)

-- what that state answers
abbrev pub answer_at : Input → ℕ → StepAnswer
answer_at i n = answer (rules_in i) (target_of i) (state_at i n)

-- the folds of the first n steps, in order
abbrev pub folds_to : Input → ℕ → List Pair
folds_to i n = fold_list (plain_machine (rules_in i) (target_of i)) n (start_of i)

-- why pairs were closed in the first n steps, in order
abbrev pub reasons_to : Input → ℕ → List Reason
reasons_to i n = reason_list (plain_machine (rules_in i) (target_of i)) n (start_of i)

-- the number of steps that the outcome is defined by
abbrev pub budget_of : Input → ℕ
budget_of i = budget (faces_in i) (start_of i)

-- the live faces after n steps
abbrev pub faces_at : Input → ℕ → List Face
faces_at i n = (state_at i n).mesh.faces

-- what the point x carries after n steps: where it is, its quadric and its kind
abbrev pub carried : Input → ℕ → ℕ → Vertex
carried i n x = data_of (rules_in i) (state_at i n).mesh x

-- the normal of a face after n steps
abbrev pub normal_at : Input → ℕ → Face → Point
normal_at i n f = normal (carried i n f.a).point (carried i n f.b).point (carried i n f.c).point

-- the faces that the input has
abbrev pub given_faces : Input → List Face
given_faces i = faces_of (faces_in i) i.faces

-- a fixed point: a margin point, with preserve on or off, or a border point, where preserve is on
abbrev pub fixed_point : Input → ℕ → Bool
fixed_point i x = in_margin i.margin x || (i.options.preserve && border_point (points_in i) (given_faces i) x)
