-- Document 01's two listings, byte for byte. The proofs compute them from the definitions.
use Rattle.std.specs.Prelude.{ℕ, ◌≡◌, refl, List, [], ◌∷◌, ◌++◌, map}
use Rattle.std.specs.Float.{binary32}
use Rattle.std.specs.Float.Ieee.{span, climb, size, odd, units, round, of_fields, of_bits, to_bits}
use Rattle.text.specs.Words.{ascii}
use Rattle.text.specs.Digits.{digits, digit_count, decimal, long_decimal}
use Rattle.text.specs.Lines.{lines_to}
use Rattle.listing.specs.Texts.{refusal_text, closed_text, head_text, mesh_text}

-- the mesh of the example square, thinned by half: four points and two faces
abbrev square_points : List ℕ
square_points = 0x4000_0000 ∷ 0 ∷ 0 ∷ 0x4000_0000 ∷ 0x4000_0000 ∷ 0 ∷ 0 ∷ 0 ∷ 0 ∷ 0 ∷ 0x4000_0000 ∷ 0 ∷ []

abbrev square_faces : List ℕ
square_faces = 0 ∷ 1 ∷ 2 ∷ 1 ∷ 3 ∷ 2 ∷ []

-- its listing, a line of text to a line
abbrev pub square_listing : List ℕ
square_listing =
    ascii "answer 0\n"
    ++ (ascii "unit 1\n"
    ++ (ascii "folds 1\n"
    ++ (ascii "vertices 4\n"
    ++ (ascii "40000000 00000000 00000000\n"
    ++ (ascii "40000000 40000000 00000000\n"
    ++ (ascii "00000000 00000000 00000000\n"
    ++ (ascii "00000000 40000000 00000000\n"
    ++ (ascii "faces 2\n"
    ++ (ascii "0 1 2\n"
    ++ ascii "1 3 2\n")))))))))

abbrev pub refusal_listing : List ℕ
refusal_listing = ascii "answer 10 place 4\n"

-- the line of its closed pairs: (0,1) squashes a face
abbrev pub square_closed : List ℕ
square_closed = ascii "closed 0 1 0\n"

-- the listing of the example square
pub square-listed : mesh_text 1 1 (map (of_bits binary32) square_points) square_faces ≡ square_listing
unfolding mesh_text head_text lines_to decimal digit_count digits span climb size odd units round of_fields of_bits to_bits
square-listed = refl

-- the refusal of the same square with preserve on
pub refusal-listed : refusal_text 10 4 ≡ refusal_listing
unfolding refusal_text decimal digit_count digits
refusal-listed = refl

-- the lines of closed pairs: the square's, and one with the most that can be counted
pub closed-listed :
    (closed_text 0 1 0 ∷ closed_text 18446744073709551615 10 4294967296 ∷ []) ≡
    (square_closed ∷ ascii "closed 18446744073709551615 10 4294967296\n" ∷ [])
unfolding closed_text long_decimal digit_count digits
closed-listed = refl
