-- Where things stand in a file: three records, of kinds 1, 2 and 3 (document 01, "The program and its file"), and a fourth, of kind 4, which may be
-- absent (document 02, wish 2).
use Rattle.std.specs.Prelude.{ℕ, ◌+◌, ◌*◌, List, Bool, ◌&&◌, cond, leb, eqb, length}
use Rattle.records.specs.Records.{head_length, size_at, kind_at, next_at}
use Rattle.scanfile.specs.declared.layout.RecordKind.{RecordKind}
use Rattle.scanfile.specs.declared.layout.RecordKind.TheVariants.{Options, Points, Faces, Margin}

-- ---- the kinds of records

abbrev pub kind_number : RecordKind → ℕ
kind_number Options = 1
kind_number Points = 2
kind_number Faces = 3
kind_number Margin = 4

-- ---- the limits of a file

-- points, and faces, of 12 bytes each
abbrev pub most_points : ℕ
most_points = 128

abbrev pub most_faces : ℕ
most_faces = 256

-- points of the margin, of 4 bytes each
abbrev pub most_margin : ℕ
most_margin = 128

-- ---- the first record's payload, 12 bytes

-- unit u16
abbrev pub unit_at : ℕ
unit_at = 6

-- flags u16
abbrev pub flags_at : ℕ
flags_at = 8

-- ratio f32
abbrev pub ratio_at : ℕ
ratio_at = 10

-- limit f32
abbrev pub limit_at : ℕ
limit_at = 14

-- ---- the second record

-- past the first
abbrev pub second_at : ℕ
second_at = 18

-- its payload: 12 bytes for each point
abbrev pub points_at : ℕ
points_at = 24

-- ---- the third record

-- past the second
abbrev pub third_at : List ℕ → ℕ
third_at bytes = points_at + size_at bytes second_at

-- ---- the fourth record, the margin, which may be absent

-- past the third
abbrev pub fourth_at : List ℕ → ℕ
fourth_at bytes = next_at bytes (third_at bytes)

-- whether a whole head of a kind stands at an offset
abbrev pub has_head : List ℕ → ℕ → ℕ → Bool
has_head bytes kind at = leb (at + head_length) (length bytes) && eqb (kind_at bytes at) kind

-- whether the record is there: a whole head of kind 4 follows the third record
abbrev pub marked : List ℕ → Bool
marked bytes = has_head bytes 4 (fourth_at bytes)

-- where the last record ends, and no byte may follow
abbrev pub last_end : List ℕ → ℕ
last_end bytes = cond (marked bytes) (next_at bytes (fourth_at bytes)) (fourth_at bytes)

-- ---- the same in a file of v points and f faces

-- the third record
abbrev pub third_after : ℕ → ℕ
third_after v = points_at + 12 * v

-- its payload: 12 bytes for each face
abbrev pub faces_at : ℕ → ℕ
faces_at v = 30 + 12 * v

-- where it ends, and the fourth may follow
abbrev pub end_after : ℕ → ℕ → ℕ
end_after v f = faces_at v + 12 * f

-- the fourth record's payload: 4 bytes for each point of the margin
abbrev pub margin_at : ℕ → ℕ → ℕ
margin_at v f = end_after v f + 6
