-- What is known of a good file. proofs/GoodLaws.antt shows that a file is good exactly when this holds.
use Rattle.std.specs.Prelude.{ℕ, ◌+◌, ◌*◌, ◌≤◌, ◌≡◌, ◌⊎◌, List, length}
use Rattle.units.specs.Units.{unit_number}
use Rattle.records.specs.Records.{size_at, kind_at}
use Rattle.scanfile.specs.declared.Head.{Head}
use Rattle.scanfile.specs.Layout.{second_at, third_after, end_after, margin_at}
use Rattle.scanfile.specs.Faults.{unit_in, flags_in}
use Rattle.scanfile.specs.Scans.{head_of}

-- a file ends with its third record
pub record EndsThird (bytes : List ℕ) (h : Head) : Type 0 where
  pub none_named : h.margin ≡ 0
  pub whole : length bytes ≡ end_after h.points h.faces

-- it ends with a fourth, of kind 4
pub record EndsFourth (bytes : List ℕ) (h : Head) : Type 0 where
  pub fourth_kind : kind_at bytes (end_after h.points h.faces) ≡ 4
  pub fourth_size : size_at bytes (end_after h.points h.faces) ≡ 4 * h.margin
  pub whole : length bytes ≡ margin_at h.points h.faces + 4 * h.margin

-- the file is good, and its head is h
pub record GoodFile (bytes : List ℕ) (h : Head) : Type 0 where
  pub head_is : h ≡ head_of bytes
  -- three records, of kinds 1, 2 and 3
  pub first_kind : kind_at bytes 0 ≡ 1
  pub second_kind : kind_at bytes second_at ≡ 2
  pub third_kind : kind_at bytes (third_after h.points) ≡ 3
  pub first_size : size_at bytes 0 ≡ 12
  pub second_size : size_at bytes second_at ≡ 12 * h.points
  pub third_size : size_at bytes (third_after h.points) ≡ 12 * h.faces
  pub there : end_after h.points h.faces ≤ length bytes
  -- then a fourth, of kind 4, or none, and no byte more
  pub ends : EndsThird bytes h ⊎ EndsFourth bytes h
  -- the limits of the program
  pub points_most : h.points ≤ 128
  pub faces_most : h.faces ≤ 256
  pub margin_most : h.margin ≤ 128
  -- millimetre or micrometre, and no other flag bit than 0 and 1
  pub unit_is : unit_in bytes ≡ unit_number h.unit
  pub flags_known : flags_in bytes ≤ 3
