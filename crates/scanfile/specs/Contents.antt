-- The points, the faces and the margin of a good file of so many points and faces.
use Rattle.std.specs.Prelude.{ℕ, ◌*◌, List, map, Float}
use Rattle.std.specs.Float.{binary32}
use Rattle.std.specs.Float.Ieee.{of_bits}
use Rattle.records.specs.Words.{numbers_from}
use Rattle.scanfile.specs.Layout.{points_at, faces_at, margin_at}

-- three coordinates of each of v points: the second record's payload
abbrev pub points_of : List ℕ → ℕ → List Float
points_of bytes v = map (of_bits binary32) (numbers_from bytes points_at (3 * v))

-- three point numbers of each of f faces: the third record's payload
abbrev pub face_numbers_of : List ℕ → ℕ → ℕ → List ℕ
face_numbers_of bytes v f = numbers_from bytes (faces_at v) (3 * f)

-- the numbers of the m points of the margin: the fourth record's payload
abbrev pub margin_of : List ℕ → ℕ → ℕ → ℕ → List ℕ
margin_of bytes v f m = numbers_from bytes (margin_at v f) m
