-- The listing of an answer (document 01, "The program and its file").
use Rattle.std.specs.Prelude.{ℕ, ◌+◌, ◌*◌, ◌/◌, List, [], ◌∷◌, ◌++◌, Bool, ◌&&◌, leb, length, get_or, Float}
use Rattle.std.specs.Float.{binary32, nan}
use Rattle.std.specs.Float.Ieee.{to_bits}
use Rattle.text.specs.Words.{ascii}
use Rattle.text.specs.Digits.{decimal, hexadecimal}
use Rattle.text.specs.Lines.{number_then, long_then, word_line, lines_to}

-- ---- lines

-- a float by its bits, and the byte after it
abbrev pub float_then : Float → ℕ → List ℕ
float_then x end = hexadecimal (to_bits binary32 x) ++ (end ∷ [])

-- a point: its three parts
abbrev pub point_line : List Float → ℕ → List ℕ
point_line points k =
    float_then (get_or points (3 * k) nan) 32 ++ (float_then (get_or points (3 * k + 1) nan) 32 ++ float_then (get_or points (3 * k + 2) nan) 10)

-- a face: its three points' numbers
abbrev pub face_line : List ℕ → ℕ → List ℕ
face_line faces k = number_then (get_or faces (3 * k) 0) 32 ++ (number_then (get_or faces (3 * k + 1) 0) 32 ++ number_then (get_or faces (3 * k + 2) 0) 10)

-- ---- words, each with the space after it, and place with one before it too

abbrev pub answer_word : List ℕ
answer_word = ascii "answer "

abbrev pub place_word : List ℕ
place_word = ascii " place "

abbrev pub unit_word : List ℕ
unit_word = ascii "unit "

abbrev pub folds_word : List ℕ
folds_word = ascii "folds "

abbrev pub vertices_word : List ℕ
vertices_word = ascii "vertices "

abbrev pub faces_word : List ℕ
faces_word = ascii "faces "

abbrev pub closed_word : List ℕ
closed_word = ascii "closed "

-- ---- whole texts

-- a refusal: its number and place on one line
unfoldable pub refusal_text : ℕ → ℕ → List ℕ
refusal_text number place = (answer_word ++ decimal number) ++ word_line place_word place

-- the lines before the points
unfoldable pub head_text : ℕ → ℕ → ℕ → List ℕ
head_text unit folds v = word_line answer_word 0 ++ (word_line unit_word unit ++ (word_line folds_word folds ++ word_line vertices_word v))

-- a mesh of V points and F faces, three numbers to each
unfoldable pub mesh_text : ℕ → ℕ → List Float → List ℕ → List ℕ
mesh_text unit folds points faces =
    let v = length points / 3 in
    let f = length faces / 3 in
    head_text unit folds v ++ (lines_to (point_line points) v ++ (word_line faces_word f ++ lines_to (face_line faces) f))

-- the line of the pairs closed: not linked, squashed, turned over (document 02, wish 4)
unfoldable pub closed_text : (unlinked squashed turned : ℕ) → List ℕ
closed_text unlinked squashed turned = closed_word ++ (long_then unlinked 32 ++ (long_then squashed 32 ++ long_then turned 10))

-- ---- the room that is asked for

-- no refusal is longer
abbrev pub refusal_room : ℕ
refusal_room = 35

-- no listing of V points and F faces is longer
abbrev pub mesh_room : ℕ → ℕ → ℕ
mesh_room v f = 27 * v + 33 * f + 88

-- there is room for a refusal
abbrev pub refusal_fits : ℕ → Bool
refusal_fits room = leb refusal_room room

-- V and F are within document 01's limits, and there is room for them
abbrev pub mesh_fits : ℕ → ℕ → ℕ → Bool
mesh_fits room v f = leb v 65536 && (leb f 131072 && leb (mesh_room v f) room)
