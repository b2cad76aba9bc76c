-- What comes back of a mesh that is written as a file and read again.
use Rattle.std.specs.Prelude.{ℕ, ◌*◌, ◌≤◌, ◌≡◌, List, Bool, true, false, ◌&&◌, cond, leb, length, Float, Result, Ok, Err}
use Rattle.lists.specs.Lists.{overlaid}
use Rattle.units.specs.Units.{unit_number}
use Rattle.scanfile.specs.declared.Head.{Head}
use Rattle.scanfile.specs.Scans.{scan_of}
use Rattle.scanfile.specs.Contents.{points_of, face_numbers_of}
use Rattle.scanwriter.specs.declared.WriteFault.{WriteFault}
use Rattle.scanwriter.specs.Written.{writing_of}

-- ---- reading

-- the lists are long enough for a good file's points and faces
pub record RoomToRead (bytes : List ℕ) (points : List Float) (faces : List ℕ) : Type 0 where
  pub points_room : (h : Head) → scan_of bytes ≡ Ok h → 3 * h.points ≤ length points
  pub faces_room : (h : Head) → scan_of bytes ≡ Ok h → 3 * h.faces ≤ length faces

-- what a good file holds, as the reader's definition has it
pub record MeshRead (bytes : List ℕ) (points points' : List Float) (faces faces' : List ℕ) (r : ℕ) : Type 0 where
  pub unit_read : (h : Head) → scan_of bytes ≡ Ok h → r ≡ unit_number h.unit
  pub points_read : (h : Head) → scan_of bytes ≡ Ok h → points' ≡ overlaid (points_of bytes h.points) points
  pub faces_read : (h : Head) → scan_of bytes ≡ Ok h → faces' ≡ overlaid (face_numbers_of bytes h.points h.faces) faces

-- ---- writing and reading

-- whether the writer takes what it is given
abbrev pub is_written : Result ℕ WriteFault → Bool
is_written (Ok n) = true
is_written (Err fault) = false

-- whether it does, and the lists to read into are long enough
abbrev pub what_comes_back : (unit : ℕ) (points : List Float) (faces file : List ℕ) (out-points : List Float) (out-faces : List ℕ) → Bool
what_comes_back unit points faces file out-points out-faces =
    leb (length points) (length out-points) && leb (length faces) (length out-faces) && is_written (writing_of unit (length points) (length faces) (length file))

-- Where it comes back the unit, the points and the faces that are read are those that were written. Else nothing is read.
pub record BackAgain (comes : Bool) (unit : ℕ) (points : List Float) (faces : List ℕ) (out-points out-points' : List Float) (out-faces out-faces' : List ℕ) (r : ℕ) : Type 0 where
  pub unit_back : r ≡ cond comes unit 0
  pub points_back : out-points' ≡ cond comes (overlaid points out-points) out-points
  pub faces_back : out-faces' ≡ cond comes (overlaid faces out-faces) out-faces
