-- Document 01's example, its refusal, one by a margin and one by its unit's bound, from the bytes of the file to the bytes of the listing, and to those of the thinned file. The
-- proof computes them from the definitions.
use Rattle.std.specs.Prelude.{ℕ, ◌≡◌, refl}
use mathlib.Core.List.{List, [], ◌∷◌, ◌++◌, flat_map}
use Rattle.std.proofs.Math.Option.{Option, none, some as present}
use Rattle.std.specs.Float.Ieee as ieee
use Rattle.std.specs.Float.Ieee.{span, climb, size, odd, units, round, neg, add, sub, mul, div, lt, eq, le, of_int, to_unsigned, is_nan, of_fields, of_bits, to_bits}
use Rattle.bits.specs.Cut.{cut, target}
use Rattle.bits.specs.Narrow.{narrowed}
use Rattle.bits.specs.Order.{order_key, float_key}
use Rattle.bits.specs.Root as BitsRoot
use Rattle.bits.specs.Root.{steps, halfway, fourfold, finite_root, root_bits, root}
use Rattle.geometry.specs.Points.{norm, normal, all_finite}
use Rattle.geometry.specs.Planes.{unit_normal, plane_of}
use Rattle.placement.specs.Errors.{error_at}
use Rattle.placement.specs.Inverses.{inverse}
use Rattle.placement.specs.Pairs.{pair_quadric, pair_length, pair_place, pair_cost, eligible}
use Rattle.placement.specs.Places.{solved, stands, tested, cheaper, fallback, place_of}
use Rattle.lists.specs.Lists as lists
use Rattle.lists.specs.Lists.{those, beside, every, some, without, below, first_of}
use Rattle.walk.specs.Faces.{border_point}
use Rattle.walk.specs.Fold.{folded_faces, left_numbers, folded_mesh}
use Rattle.walk.specs.FoldTest.{harm, or_else, first_harm, face_test, fold_test}
use Rattle.walk.specs.Pairs.{pairs_below, order, least, opened}
use Rattle.walk.specs.Walk as walked
use Rattle.walk.specs.Walk.{walk, collected, fold_of, reason_of, budget, started, tried, chosen, answer, after}
use Rattle.walk.specs.Closings.{closings_of, none_closed}
use Rattle.walk.specs.Output.{used, place_in, renumbered, numbers_of}
use Rattle.meaning.specs.Arithmetic.{squashed_points, turned_points, merged_vertex, rules_of}
use Rattle.meaning.specs.Start.{gathered, start_kind, fixed_count, start_mesh}
use Rattle.meaning.specs.Answers.{face_verdict, margin_verdict, contents_verdict, verdict_of}
use Rattle.meaning.specs.Outcome.{start_of, target_of, last_mesh, folds_walked, closed_walked, parts_in, outcome_by, outcome}
use Rattle.records.specs.Words.{four_bytes, numbers_from, as_fours}
use Rattle.records.specs.Records.{records_bytes}
use Rattle.scanfile.specs.Faults.{record_fault, options_fault}
use Rattle.scanfile.specs.Scans.{scan_of}
use Rattle.scanfile.specs.Files.{file_of}
use Rattle.text.specs.Digits.{digits, digit_count, decimal, long_decimal}
use Rattle.text.specs.Lines.{lines_to}
use Rattle.text.specs.Words.{ascii}
use Rattle.walk.specs.declared.Closings.{Closings}
use Rattle.listing.specs.Texts.{refusal_text, closed_text, head_text, mesh_text}
use Rattle.listing.specs.Examples.{square_listing, refusal_listing}
use Rattle.replies.specs.declared.Wanted.TheVariants.{Listing, File}
use Rattle.replies.specs.Replies.{mesh, refused, reply_by, reply_of, told_bytes, with_why, why_of}

-- the example square as a file: (0,0,0) (2,0,0) (2,2,0) (0,2,0) (1,1,z), millimetres, ratio 0.5, with flags, a margin and z, by its bits
abbrev square_with : ℕ → Option (List ℕ) → ℕ → List ℕ
square_with flags margin z =
    file_of
    (record {
      unit = 1;
      flags = flags;
      ratio = 0x3f00_0000;
      limit = 0;
      points = 0 ∷ 0 ∷ 0 ∷ 0x4000_0000 ∷ 0 ∷ 0 ∷ 0x4000_0000 ∷ 0x4000_0000 ∷ 0 ∷ 0 ∷ 0x4000_0000 ∷ 0 ∷ 0x3f80_0000 ∷ 0x3f80_0000 ∷ z ∷ [];
      faces = 0 ∷ 1 ∷ 4 ∷ 1 ∷ 2 ∷ 4 ∷ 2 ∷ 3 ∷ 4 ∷ 3 ∷ 0 ∷ 4 ∷ [];
      margin = margin;
    })

-- flat, as document 01 has it
abbrev square_file : ℕ → Option (List ℕ) → List ℕ
square_file flags margin = square_with flags margin 0

-- so many pairs closed, each since it squashes a face
abbrev squashing : ℕ → Closings
squashing n = record { unlinked = 0; squashed = n; turned = 0 }

-- the thinned square as a file: four points, two faces, and zeros for flags, ratio and limit
abbrev thinned_file : List ℕ
thinned_file =
    file_of
    (record {
      unit = 1;
      flags = 0;
      ratio = 0;
      limit = 0;
      points = 0x4000_0000 ∷ 0 ∷ 0 ∷ 0x4000_0000 ∷ 0x4000_0000 ∷ 0 ∷ 0 ∷ 0 ∷ 0 ∷ 0 ∷ 0x4000_0000 ∷ 0 ∷ [];
      faces = 0 ∷ 1 ∷ 2 ∷ 1 ∷ 3 ∷ 2 ∷ [];
      margin = none;
    })

-- its listing, its refusal with preserve on, and its file; with the middle held, with a margin that descends, and with the middle at the next f32 above
-- 1,024. The square's pair (0,1) squashes a face; with the middle held three do, and no fold is left
pub examples-hold :
    (reply_of Listing (square_file 0 none)
    ∷ reply_of Listing (square_file 1 none)
    ∷ reply_of File (square_file 0 none)
    ∷ reply_of File (square_file 0 (present (4 ∷ [])))
    ∷ reply_of Listing (square_file 0 (present (1 ∷ 3 ∷ 2 ∷ [])))
    ∷ reply_of Listing (square_with 0 none 0x4480_0001)
    ∷ []) ≡
    (mesh square_listing (squashing 1)
    ∷ refused 10 4 none_closed
    ∷ mesh thinned_file (squashing 1)
    ∷ refused 10 1 (squashing 3)
    ∷ refused 12 2 none_closed
    ∷ refused 7 14 none_closed
    ∷ [])
unfolding outcome outcome_by parts_in folds_walked last_mesh target_of start_of start_mesh fixed_count start_kind gathered rules_of merged_vertex squashed_points turned_points numbers_of renumbered place_in used closed_walked closings_of collected walk after answer chosen tried walked.told_by opened started least order budget fold_of reason_of pairs_below folded_mesh left_numbers fold_test face_test first_harm or_else harm folded_faces border_point without those beside every some below lists.sum place_of fallback cheaper tested stands solved eligible pair_cost pair_place pair_length pair_quadric inverse error_at plane_of unit_normal all_finite normal norm root root_bits finite_root BitsRoot.largest halfway fourfold steps float_key order_key narrowed cut target flat_map verdict_of contents_verdict face_verdict margin_verdict first_of span climb size odd units round neg ieee.sum add sub mul div lt eq le of_int to_unsigned is_nan of_fields of_bits to_bits reply_of reply_by as_fours records_bytes scan_of record_fault options_fault four_bytes numbers_from mesh_text head_text refusal_text lines_to decimal digit_count digits
examples-hold = refl

-- the refusal's line
pub refusal-line : told_bytes (refused 10 4 none_closed) ≡ refusal_listing
unfolding refusal_text decimal digit_count digits
refusal-line = refl

-- and with the line of the pairs closed: of the square, of a refusal that the walk comes to, and of bytes that are no file
pub why-lines :
    (told_bytes (with_why (mesh square_listing (squashing 1)))
    ∷ told_bytes (with_why (refused 10 1 (squashing 3)))
    ∷ why_of []
    ∷ []) ≡
    ((square_listing ++ ascii "closed 0 1 0\n")
    ∷ (ascii "answer 10 place 1\n" ++ ascii "closed 0 3 0\n")
    ∷ (ascii "answer 21 place 0\n" ++ ascii "closed 0 0 0\n")
    ∷ [])
unfolding reply_of reply_by scan_of record_fault options_fault refusal_text closed_text decimal long_decimal digit_count digits
why-lines = refl
