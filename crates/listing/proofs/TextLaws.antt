-- Whole texts: put together of their parts, and never longer than the room that is asked for.
-- Assumes nothing.
use Prim.Native.Nat.{ℕ, ◌+◌, ◌*◌, ◌/◌, ◌≤◌}
use native.Mathlib.Omega.{arith}
use mathlib.Core.Path.{◌≡◌, refl, ap}
use mathlib.Core.List.{List, [], ◌∷◌}
use mathlib.Core.Bool.{Bool, true, false}
use lib.Dec.{leb}
use borrow.Author.Tests.{leb-true}
use lib.ListN.{length}
use lib.Ieee.{Float, binary32, to_bits}
use Rattle.lists.proofs.TestLaws.{both_true}
use Rattle.text.specs.Lines.{word_line, lines_to}
use Rattle.lists.specs.Puts.{Put}
use Rattle.lists.proofs.PutLaws.{wider, both, whole}
use Rattle.text.proofs.RoomLaws.{NoLonger, two-within, word-within, decimal-within, hexadecimal-within, number-within, line-within, lines-within}
use Rattle.std.specs.Prelude.{Some, None}
use Rattle.listing.specs.Texts.{float_then, point_line, face_line, answer_word, unit_word, folds_word, vertices_word, faces_word, place_word, head_text, refusal_text, mesh_text, refusal_room, mesh_room, mesh_fits}
use Rattle.listing.specs.Written.{Prints}

-- ---- what an entry leaves

-- nothing is written where the text doesn't fit
pub not-printed : {fits : Bool} {text old : List ℕ} → fits ≡ false → Prints fits text old old None
not-printed small = rw small (record { answered = refl; written = refl })

-- where it fits, the text stands whole
pub all-printed : {fits : Bool} {most r : ℕ} {text old new : List ℕ} → fits ≡ true → most ≤ length old → Put most text 0 old new r →
    Prints fits text old new (Some r)
all-printed {r = r} {text = text} large room done =
    let size : r ≡ length text = omega arith in
    rw large (record { answered = ap Some size; written = whole done room })

-- a mesh, of its four parts
pub mesh-stored : (unit folds : ℕ) (points : List Float) (faces : List ℕ) {p q r s : ℕ} {a b c d e : List ℕ} →
    let v = length points / 3 in
    let f = length faces / 3 in
    Put 71 (head_text unit folds v) 0 a b p → Put (27 * v) (lines_to (point_line points) v) p b c q →
    Put 17 (word_line faces_word f) q c d r → Put (33 * f) (lines_to (face_line faces) f) r d e s →
    Put (mesh_room v f) (mesh_text unit folds points faces) 0 a e s
unfolding mesh_text
mesh-stored unit folds points faces head points-put line faces-put =
    let v = length points / 3 in
    let f = length faces / 3 in
    let most : 71 + (27 * v + (17 + 33 * f)) ≤ mesh_room v f = omega arith in
    wider most (both head (both points-put (both line faces-put)))

-- what a mesh that fits asks
pub fits-bounds : (room v f : ℕ) → mesh_fits room v f ≡ true → (v ≤ 65536) × (f ≤ 131072) × (mesh_room v f ≤ room)
fits-bounds room v f fits =
    let points = both_true (leb v 65536) _ fits in
    let faces = both_true (leb f 131072) _ points.1 in
    (leb-true _ _ points.0, leb-true _ _ faces.0, leb-true _ _ faces.1)

-- ---- enough room

float-within : (x : Float) (end : ℕ) → NoLonger 9 (float_then x end)
float-within x end = two-within (hexadecimal-within (to_bits binary32 x)) (word-within (end ∷ []))

point-within : (points : List Float) (k : ℕ) → NoLonger 27 (point_line points k)
point-within points k = two-within (float-within _ 32) (two-within (float-within _ 32) (float-within _ 10))

face-within : (faces : List ℕ) (k : ℕ) → NoLonger 33 (face_line faces k)
face-within faces k = two-within (number-within _ 32) (two-within (number-within _ 32) (number-within _ 10))

-- no refusal is longer than its room
pub refusal-room : (number place : ℕ) → length (refusal_text number place) ≤ refusal_room
unfolding refusal_text
refusal-room number place = (two-within (two-within (word-within answer_word) (decimal-within number)) (line-within place_word place)).bytes

-- and no mesh
pub enough-room : (unit folds : ℕ) (points : List Float) (faces : List ℕ) →
    length (mesh_text unit folds points faces) ≤ mesh_room (length points / 3) (length faces / 3)
unfolding mesh_text head_text
enough-room unit folds points faces =
    let v = length points / 3 in
    let f = length faces / 3 in
    let head : NoLonger 71 (head_text unit folds v) =
    two-within (line-within answer_word 0) (two-within (line-within unit_word unit) (two-within (line-within folds_word folds) (line-within vertices_word v))) in
    let all : NoLonger (71 + (27 * v + (17 + 33 * f))) (mesh_text unit folds points faces) =
    two-within head (two-within (lines-within (point-within points) v) (two-within (line-within faces_word f) (lines-within (face-within faces) f))) in
    omega (arith, all.bytes)
