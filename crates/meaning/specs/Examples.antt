-- Document 01's examples of whole calls, some with a margin, and one in both units, as one list with one proof over it; and others of kinds, limits and
-- reasons. The proofs compute them from the definitions.
use Rattle.std.specs.Prelude.{ℕ, ◌≡◌, refl, Bool, true, false, ⊤, Result, Err, Float, Option, Some, None}
use mathlib.Core.List.{List, [], ◌∷◌, map, flat_map}
use Rattle.std.specs.Float.Ieee as ieee
use Rattle.std.specs.Float.{binary32}
use Rattle.std.specs.Float.Ieee.{span, climb, size, odd, units, round, neg, add, sub, mul, div, lt, eq, le, of_int, to_unsigned, is_nan, of_fields, of_bits, to_bits}
use Rattle.bits.specs.Cut.{cut, target}
use Rattle.bits.specs.Narrow.{narrowed}
use Rattle.bits.specs.Order.{order_key, float_key}
use Rattle.bits.specs.Root as BitsRoot
use Rattle.bits.specs.Root.{steps, halfway, fourfold, finite_root, root_bits, root}
use Rattle.geometry.specs.Points.{norm, normal, all_finite}
use Rattle.geometry.specs.Planes.{unit_normal, plane_of}
use Rattle.placement.specs.Choices.{kind_number}
use Rattle.placement.specs.Errors.{error_at}
use Rattle.placement.specs.Inverses.{inverse}
use Rattle.placement.specs.Pairs.{pair_quadric, pair_length, pair_place, pair_cost, eligible}
use Rattle.placement.specs.Places.{solved, stands, tested, cheaper, fallback, place_of}
use Rattle.walk.specs.declared.Reason.{Reason}
use Rattle.walk.specs.declared.Pair.{Pair}
use Rattle.lists.specs.Lists as lists
use Rattle.lists.specs.Lists.{those, beside, every, some, without, below, first_of}
use Rattle.walk.specs.Faces.{border_point}
use Rattle.walk.specs.Fold.{folded_faces, left_numbers, folded_mesh}
use Rattle.walk.specs.declared.Closings.{Closings}
use Rattle.walk.specs.declared.Reason.TheVariants.{NotLinked, Squashed, TurnedOver}
use Rattle.walk.specs.FoldTest.{harm, or_else, first_harm, face_test, fold_test}
use Rattle.walk.specs.Pairs.{pair_of, pairs_below, eligible_pair, order, least, opened}
use Rattle.walk.specs.Walk.{walk, collected, fold_of, reason_of, told_by, budget, started, tried, chosen, answer, after}
use Rattle.walk.specs.Closings.{closings_of, none_closed}
use Rattle.walk.specs.Output.{used, place_in, renumbered, numbers_of}
use Rattle.meaning.specs.Arithmetic.{squashed_points, turned_points, merged_vertex, rules_of}
use Rattle.meaning.specs.Start.{gathered, start_kind, fixed_count, start_mesh}
use Rattle.meaning.specs.Input.{Input}
use Rattle.meaning.specs.Answers.{face_verdict, margin_verdict, contents_verdict, verdict_of}
use Rattle.meaning.specs.declared.Answer.{Answer}
use Rattle.meaning.specs.Outcome.{rules_in, start_of, target_of, last_mesh, folds_walked, closed_walked, parts_in, without_mesh, refusal, Outcome, outcome_by, outcome, folds_by, folds_of, pair_numbers}

-- a mesh in a unit, its points by their bits, with a margin, a ratio by its bits, preserve on or off and a limit, and room for ten points and ten faces
abbrev measured : (unit : ℕ) (points faces margin : List ℕ) → ℕ → Bool → Option Float → Input
measured unit points faces margin ratio preserve limit =
    record {
      points = map (of_bits binary32) points;
      faces = faces;
      margin = margin;
      rooms = record { points = 30; faces = 30; u32s = 480; f32s = 160; f64s = 220 };
      options = record { unit = unit; ratio = of_bits binary32 ratio; preserve = preserve; limit = limit };
    }

-- in millimetres
abbrev mesh_with : (points faces margin : List ℕ) → ℕ → Bool → Option Float → Input
mesh_with = measured 1

-- the example square: (0,0,0) (2,0,0) (2,2,0) (0,2,0) (1,1,0)
abbrev held : (margin : List ℕ) → ℕ → Bool → Option Float → Input
held =
    mesh_with
    (0 ∷ 0 ∷ 0 ∷ 0x4000_0000 ∷ 0 ∷ 0 ∷ 0x4000_0000 ∷ 0x4000_0000 ∷ 0 ∷ 0 ∷ 0x4000_0000 ∷ 0 ∷ 0x3f80_0000 ∷ 0x3f80_0000 ∷ 0 ∷ [])
    (0 ∷ 1 ∷ 4 ∷ 1 ∷ 2 ∷ 4 ∷ 2 ∷ 3 ∷ 4 ∷ 3 ∷ 0 ∷ 4 ∷ [])

-- and without a margin
abbrev square : ℕ → Bool → Option Float → Input
square = held []

-- one triangle: (0,0,0) (1,0,0) (0,1,0)
abbrev triangle : (margin : List ℕ) → ℕ → Bool → Option Float → Input
triangle = mesh_with (0 ∷ 0 ∷ 0 ∷ 0x3f80_0000 ∷ 0 ∷ 0 ∷ 0 ∷ 0x3f80_0000 ∷ 0 ∷ []) (0 ∷ 1 ∷ 2 ∷ [])

-- a ridge whose planes meet beyond 1,024: the ends (1024,0,1) and (1024,0,-1), and (1020,0,0) (1020,4,3) (1020,-4,3) (1020,4,-3) (1020,-4,-3), which are
-- held; in a unit, at ratio 0.5
abbrev ridge : (unit : ℕ) → Input
ridge unit =
    measured unit
    (0x4480_0000 ∷ 0 ∷ 0x3f80_0000
    ∷ 0x4480_0000 ∷ 0 ∷ 0xbf80_0000
    ∷ 0x447f_0000 ∷ 0 ∷ 0
    ∷ 0x447f_0000 ∷ 0x4080_0000 ∷ 0x4040_0000
    ∷ 0x447f_0000 ∷ 0xc080_0000 ∷ 0x4040_0000
    ∷ 0x447f_0000 ∷ 0x4080_0000 ∷ 0xc040_0000
    ∷ 0x447f_0000 ∷ 0xc080_0000 ∷ 0xc040_0000
    ∷ [])
    (0 ∷ 1 ∷ 2 ∷ 0 ∷ 3 ∷ 4 ∷ 1 ∷ 5 ∷ 6 ∷ [])
    (2 ∷ 3 ∷ 4 ∷ 5 ∷ 6 ∷ [])
    0x3f00_0000 false None

-- pairs closed: not linked, squashed, turned over
abbrev closing : ℕ → ℕ → ℕ → Closings
closing unlinked squashed turned = record { unlinked = unlinked; squashed = squashed; turned = turned }

-- a call that is answered with 0: the points and faces written, the folds made, and the pairs closed
abbrev done : ℕ → ℕ → ℕ → Closings → Answer
done points faces folds closed = record { number = 0; place = 0; points = points; faces = faces; folds = folds; closed = closed }

-- What comes out: the answer, the parts of the points written, by their bits, the numbers of the faces written, and the folds made, keep and remove of
-- each.
pub record Shown : Type 0 where
  pub answer : Answer
  pub points : List ℕ
  pub faces : List ℕ
  pub folds : List ℕ

-- an outcome and its folds, as they are shown
abbrev pub shown : Outcome → List Pair → Shown
shown o folds = record { answer = o.answer; points = map (to_bits binary32) o.points; faces = o.faces; folds = pair_numbers folds }

-- an example: what is handed over, and what document 01 says comes out
pub record Example : Type 0 where
  pub input : Input
  pub out : Shown

-- the ridge's ends joined, with the bits of the point that they became
abbrev joined : (x y z : ℕ) → Shown
joined x y z =
    record {
      answer = done 5 2 1 none_closed;
      points =
          x ∷ y ∷ z
          ∷ 0x447f_0000 ∷ 0x4080_0000 ∷ 0x4040_0000
          ∷ 0x447f_0000 ∷ 0xc080_0000 ∷ 0x4040_0000
          ∷ 0x447f_0000 ∷ 0x4080_0000 ∷ 0xc040_0000
          ∷ 0x447f_0000 ∷ 0xc080_0000 ∷ 0xc040_0000
          ∷ [];
      faces = 0 ∷ 1 ∷ 2 ∷ 0 ∷ 3 ∷ 4 ∷ [];
      folds = 0 ∷ 1 ∷ [];
    }

-- document 01's examples, some with a margin, and the ridge in both units
abbrev pub examples : List Example
examples =
    -- the example square at ratio 0.5: (0,1) is closed, and (0,4) folds
    record {
      input = square 0x3f00_0000 false None;
      out = record {
        answer = done 4 2 1 (closing 0 1 0);
        points = 0x4000_0000 ∷ 0 ∷ 0 ∷ 0x4000_0000 ∷ 0x4000_0000 ∷ 0 ∷ 0 ∷ 0 ∷ 0 ∷ 0 ∷ 0x4000_0000 ∷ 0 ∷ [];
        faces = 0 ∷ 1 ∷ 2 ∷ 1 ∷ 3 ∷ 2 ∷ [];
        folds = 0 ∷ 4 ∷ [];
      };
    }
    -- the same with preserve on: four border points are held
    ∷ record { input = square 0x3f00_0000 true None; out = record { answer = refusal 10 4; points = []; faces = []; folds = [] } }
    -- the same with preserve off and limit 1.0
    ∷ record { input = square 0x3f00_0000 false (Some (of_bits binary32 0x3f80_0000)); out = record { answer = refusal 11 0; points = []; faces = []; folds = [] } }
    -- one triangle at ratio 1: an empty mesh
    ∷ record { input = triangle [] 0x3f80_0000 false None; out = record { answer = done 0 0 1 none_closed; points = []; faces = []; folds = 0 ∷ 1 ∷ [] } }
    -- the square at ratio 2^-25: nothing folds, and points are numbered by first use
    ∷ record {
      input = square 0x3300_0000 false None;
      out = record {
        answer = done 5 4 0 none_closed;
        points = 0 ∷ 0 ∷ 0 ∷ 0x4000_0000 ∷ 0 ∷ 0 ∷ 0x3f80_0000 ∷ 0x3f80_0000 ∷ 0 ∷ 0x4000_0000 ∷ 0x4000_0000 ∷ 0 ∷ 0 ∷ 0x4000_0000 ∷ 0 ∷ [];
        faces = 0 ∷ 1 ∷ 2 ∷ 1 ∷ 3 ∷ 2 ∷ 3 ∷ 4 ∷ 2 ∷ 4 ∷ 0 ∷ 2 ∷ [];
        folds = [];
      };
    }
    -- the first example with the point 0 held: (1,2) is closed, and (1,4) folds in place of (0,4)
    ∷ record {
      input = held (0 ∷ []) 0x3f00_0000 false None;
      out = record {
        answer = done 4 2 1 (closing 0 1 0);
        points = 0x4000_0000 ∷ 0x4000_0000 ∷ 0 ∷ 0 ∷ 0x4000_0000 ∷ 0 ∷ 0x4000_0000 ∷ 0 ∷ 0 ∷ 0 ∷ 0 ∷ 0 ∷ [];
        faces = 0 ∷ 1 ∷ 2 ∷ 1 ∷ 3 ∷ 2 ∷ [];
        folds = 1 ∷ 4 ∷ [];
      };
    }
    -- with the point 4 held no fold is allowed
    ∷ record { input = held (4 ∷ []) 0x3f00_0000 false None; out = record { answer = without_mesh 10 1 (closing 0 3 0); points = []; faces = []; folds = [] } }
    -- with preserve on: a border point that the margin names counts once
    ∷ record { input = held (0 ∷ 4 ∷ []) 0x3f00_0000 true None; out = record { answer = refusal 10 5; points = []; faces = []; folds = [] } }
    -- the triangle with the point 2 held: its one face is folded away, and the point is used no more
    ∷ record { input = triangle (2 ∷ []) 0x3f80_0000 false None; out = record { answer = done 0 0 1 none_closed; points = []; faces = []; folds = 0 ∷ 1 ∷ [] } }
    -- the ridge's planes meet at x = 1026: in millimetres, whose bound is 1,024, the ends' middle is taken; in micrometres the solved point is
    ∷ record { input = ridge 1; out = joined 0x4480_0000 0 0 }
    ∷ record { input = ridge 2; out = joined 0x4480_4000 0x8000_0000 0 }
    ∷ []

-- they come out
pub examples-hold : map (λ e. shown (outcome e.input) (folds_of e.input)) examples ≡ map (λ e. e.out) examples
unfolding outcome outcome_by pair_numbers folds_of folds_by parts_in folds_walked last_mesh target_of start_of start_mesh fixed_count start_kind gathered rules_of merged_vertex squashed_points turned_points numbers_of renumbered place_in used closed_walked closings_of collected walk after answer chosen tried told_by opened started least order budget fold_of reason_of pairs_below folded_mesh left_numbers fold_test face_test first_harm or_else harm folded_faces border_point without those beside every some below lists.sum place_of fallback cheaper tested stands solved eligible pair_cost pair_place pair_length pair_quadric inverse error_at plane_of unit_normal all_finite normal norm root root_bits finite_root BitsRoot.largest halfway fourfold steps float_key order_key narrowed cut target flat_map verdict_of contents_verdict face_verdict margin_verdict first_of span climb size odd units round neg ieee.sum add sub mul div lt eq le of_int to_unsigned is_nan of_fields of_bits to_bits
examples-hold = refl

-- ---- the kinds of points

-- the square's kinds at the start with the points 0 and 4 in the margin, by their numbers: preserve off, and on
pub kinds-hold : map (λ preserve. map (λ d. kind_number d.kind) (start_of (held (0 ∷ 4 ∷ []) 0x3f00_0000 preserve None)).mesh.points) (false ∷ true ∷ [])
    ≡ (2 ∷ 0 ∷ 0 ∷ 0 ∷ 2 ∷ []) ∷ (2 ∷ 1 ∷ 1 ∷ 1 ∷ 2 ∷ []) ∷ []
unfolding start_of start_mesh start_kind started some below lists.sum border_point
kinds-hold = refl

-- ---- the limit on a pair's length

-- limits, by their bits, and whether the square's pair (0,1), whose length is 2.0, is eligible at the start: 1.0, the f32 below 2.0, 2.0
abbrev pub limits : List (ℕ × Bool)
limits = (0x3f80_0000, false) ∷ (0x3fff_ffff, false) ∷ (0x4000_0000, true) ∷ []

-- the square at ratio 0.5 with a limit
abbrev limited : ℕ → Input
limited limit = square 0x3f00_0000 false (Some (of_bits binary32 limit))

-- they come out
pub limits-hold : map (λ l. eligible_pair (rules_in (limited l.0)) (start_of (limited l.0)).mesh (pair_of 0 1)) limits ≡ map (λ l. l.1) limits
unfolding start_of start_mesh start_kind gathered rules_of started those some below lists.sum border_point place_of fallback cheaper tested stands solved eligible pair_cost pair_place pair_length pair_quadric inverse error_at plane_of unit_normal all_finite normal norm root root_bits finite_root BitsRoot.largest halfway fourfold steps float_key order_key narrowed span climb size odd units round neg ieee.sum add sub mul div lt eq le of_int to_unsigned is_nan of_fields of_bits to_bits
limits-hold = refl

-- ---- why a pair is closed

-- (0,0,0) (1,0,0) (0,9,0) (0,4,0) (0,8,0) (0.5,5,0) (0.5,-5,0) (3,5,0) with some faces, at ratio 1 and limit 1.0: only the pair (0,1) may be opened, and its
-- fold moves the point 1 to the point 0. That squashes a face 1 3 4, and turns over a face 1 5 6
abbrev leaves : (faces : List ℕ) → Input
leaves faces =
    mesh_with
    (0 ∷ 0 ∷ 0
    ∷ 0x3f80_0000 ∷ 0 ∷ 0
    ∷ 0 ∷ 0x4110_0000 ∷ 0
    ∷ 0 ∷ 0x4080_0000 ∷ 0
    ∷ 0 ∷ 0x4100_0000 ∷ 0
    ∷ 0x3f00_0000 ∷ 0x40a0_0000 ∷ 0
    ∷ 0x3f00_0000 ∷ 0xc0a0_0000 ∷ 0
    ∷ 0x4040_0000 ∷ 0x40a0_0000 ∷ 0
    ∷ [])
    faces [] 0x3f80_0000 false (Some (of_bits binary32 0x3f80_0000))

-- faces, what the fold test says of that pair at the start, and the pairs closed, of an answer 11
pub record Reasoned : Type 0 where
  pub faces : List ℕ
  pub told : Result ⊤ Reason
  pub closed : Closings

abbrev pub reasons : List Reasoned
reasons =
    -- a face squashed, and one turned over
    record { faces = 0 ∷ 1 ∷ 2 ∷ 1 ∷ 3 ∷ 4 ∷ []; told = Err (Squashed 1); closed = closing 0 1 0 }
    ∷ record { faces = 1 ∷ 5 ∷ 6 ∷ 0 ∷ 1 ∷ 2 ∷ []; told = Err (TurnedOver 0); closed = closing 0 0 1 }
    -- both: the lower face is told
    ∷ record { faces = 0 ∷ 1 ∷ 2 ∷ 1 ∷ 3 ∷ 4 ∷ 1 ∷ 5 ∷ 6 ∷ []; told = Err (Squashed 1); closed = closing 0 1 0 }
    ∷ record { faces = 0 ∷ 1 ∷ 2 ∷ 1 ∷ 5 ∷ 6 ∷ 1 ∷ 3 ∷ 4 ∷ []; told = Err (TurnedOver 1); closed = closing 0 0 1 }
    -- the points are not linked, by a common neighbour 3 without a face, and a face is squashed: linking comes first
    ∷ record { faces = 1 ∷ 3 ∷ 4 ∷ 0 ∷ 1 ∷ 2 ∷ 0 ∷ 3 ∷ 5 ∷ []; told = Err NotLinked; closed = closing 1 0 0 }
    -- two faces open the pair, which counts once
    ∷ record { faces = 0 ∷ 1 ∷ 2 ∷ 0 ∷ 1 ∷ 7 ∷ 1 ∷ 3 ∷ 4 ∷ []; told = Err (Squashed 2); closed = closing 0 1 0 }
    ∷ []

-- they come out
pub reasons-hold :
    map {B = Result ⊤ Reason × Answer} (λ e. (fold_test (rules_in (leaves e.faces)) (start_of (leaves e.faces)).mesh (pair_of 0 1), (outcome (leaves e.faces)).answer)) reasons
    ≡ map {B = Result ⊤ Reason × Answer} (λ e. (e.told, without_mesh 11 0 e.closed)) reasons
unfolding outcome outcome_by parts_in folds_walked last_mesh target_of start_of start_mesh fixed_count start_kind gathered rules_of merged_vertex squashed_points turned_points numbers_of renumbered place_in used closed_walked closings_of collected walk after answer chosen tried told_by opened started least order budget fold_of reason_of pairs_below folded_mesh left_numbers fold_test face_test first_harm or_else harm folded_faces border_point without those beside every some below lists.sum place_of fallback cheaper tested stands solved eligible pair_cost pair_place pair_length pair_quadric inverse error_at plane_of unit_normal all_finite normal norm root root_bits finite_root BitsRoot.largest halfway fourfold steps float_key order_key narrowed cut target flat_map verdict_of contents_verdict face_verdict margin_verdict first_of span climb size odd units round neg ieee.sum add sub mul div lt eq le of_int to_unsigned is_nan of_fields of_bits to_bits
reasons-hold = refl
