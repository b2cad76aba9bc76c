-- From what the reader and the writer leave to what comes back.
-- Assumes nothing.
use Prim.Native.Nat.{ℕ, ◌/◌, ◌≤◌, ◌<◌}
use native.Mathlib.Omega.{arith}
use mathlib.Core.Path.{◌≡◌, refl, sym, ap, ◌∙◌}
use mathlib.Core.List.{List}
use mathlib.Core.Bool.{Bool, true, false}
use lib.Dec.{T}
use lib.ListN.{length, get_or, take}
use lib.Ieee.{Float, nan, binary32, fits}
use borrow.Author.Tests.{le-leb, lt-leb}
use Rattle.lists.specs.Lists.{overlaid}
use Rattle.units.specs.Units.{unit_number, unit_of}
use Rattle.scanfile.specs.declared.Head.{Head}
use Rattle.std.specs.Prelude.{Ok, Err}
use Rattle.scanfile.specs.declared.faults.BadFile.{BadFile}
use Rattle.scanfile.proofs.FaultLaws.{not_passed}
use Rattle.scanfile.specs.Scans.{scan_of}
use Rattle.scanfile.specs.Contents.{points_of, face_numbers_of}
use Rattle.std.specs.Prelude.{Ok, Err}
use Rattle.scanwriter.specs.declared.WriteFault.{WriteFault}
use Rattle.scanwriter.specs.Written.{ScanWritten}
use Rattle.scanwriter.specs.Back.{written_head, ReadBack}
use Rattle.scanwriter.proofs.BackLaws.{written_back}
use Rattle.roundtrip.specs.Trips.{RoomToRead, MeshRead, what_comes_back, BackAgain}

-- ---- reading

-- a file has one head
same_head : {g h : Head} (bytes : List ℕ) → scan_of bytes ≡ Ok g → scan_of bytes ≡ Ok h → g ≡ h
same_head bytes one other = cc

pub good-read : (bytes : List ℕ) (g : Head) {points points' : List Float} {faces faces' : List ℕ} → scan_of bytes ≡ Ok g →
    points' ≡ overlaid (points_of bytes g.points) points → faces' ≡ overlaid (face_numbers_of bytes g.points g.faces) faces →
    MeshRead bytes points points' faces faces' (unit_number g.unit)
good-read bytes g {points} {points'} {faces} {faces'} good points-in faces-in =
    record {
      unit_read = λ h e. ap (λ (x : Head). unit_number x.unit) (same_head bytes good e);
      points_read = λ h e. points-in ∙ ap (λ (x : Head). overlaid (points_of bytes x.points) points) (same_head bytes good e);
      faces_read = λ h e. faces-in ∙ ap (λ (x : Head). overlaid (face_numbers_of bytes x.points x.faces) faces) (same_head bytes good e);
    }

-- a file that is refused has none
not_good : {b : BadFile} {h : Head} (bytes : List ℕ) → scan_of bytes ≡ Err b → scan_of bytes ≡ Ok h → ⊥
not_good bytes bad good = not_passed (sym bad ∙ good)

pub none_read : (bytes : List ℕ) (points : List Float) (faces : List ℕ) {b : BadFile} → scan_of bytes ≡ Err b → MeshRead bytes points points faces faces 0
none_read bytes points faces bad =
    record {
      unit_read = λ h e. absurd (not_good bytes bad e);
      points_read = λ h e. absurd (not_good bytes bad e);
      faces_read = λ h e. absurd (not_good bytes bad e);
    }

-- ---- writing and reading

module _ (unit : ℕ) (points : List Float) (faces file : List ℕ) (out-points : List Float) (out-faces : List ℕ) where
  abbrev comes : Bool
  comes = what_comes_back unit points faces file out-points out-faces

  -- nothing comes back
  stays : (b : Bool) → b ≡ false → BackAgain b unit points faces out-points out-points out-faces out-faces 0
  stays b e = rw e (record { unit_back = refl; points_back = refl; faces_back = refl })

  comes_back : (b : Bool) {out-points' : List Float} {out-faces' : List ℕ} {r : ℕ} → b ≡ true → r ≡ unit → out-points' ≡ overlaid points out-points →
      out-faces' ≡ overlaid faces out-faces → BackAgain b unit points faces out-points out-points' out-faces out-faces' r
  comes_back b e unit_is points_are faces_are = rw e (record { unit_back = unit_is; points_back = points_are; faces_back = faces_are })

  pub few_points : length out-points < length points → BackAgain comes unit points faces out-points out-points out-faces out-faces 0
  few_points short = stays comes (rw (lt-leb _ _ short) refl)

  module _ (points_room : length points ≤ length out-points) where
    pub few_faces : length out-faces < length faces → BackAgain comes unit points faces out-points out-points out-faces out-faces 0
    few_faces short = stays comes (rw (le-leb _ _ points_room, lt-leb _ _ short) refl)

    module _ (faces_room : length faces ≤ length out-faces) where
      pub refused-back : {fault : WriteFault} {file' : List ℕ} → ScanWritten unit points faces file file' (Err fault) →
          BackAgain comes unit points faces out-points out-points out-faces out-faces 0
      refused-back done = stays comes (rw (le-leb _ _ points_room, le-leb _ _ faces_room, ← done.answered) refl)

      module _ {n : ℕ} {file' : List ℕ} (done : ScanWritten unit points faces file file' (Ok n)) (floats : (i : ℕ) → T (fits binary32 (get_or points i nan))) where
        back : ReadBack unit points faces (take n file')
        back = written_back done floats

        -- there is room for what is read
        pub room_back : RoomToRead (take n file') out-points out-faces
        room_back = record {
          points_room = λ h e. let same = same_head (take n file') back.good e in rw (sym same) (omega arith);
          faces_room = λ h e. let same = same_head (take n file') back.good e in rw (sym same) (omega arith);
        }

        -- and it is what was written
        pub all_back : {out-points' : List Float} {out-faces' : List ℕ} {r : ℕ} → MeshRead (take n file') out-points out-points' out-faces out-faces' r →
            BackAgain comes unit points faces out-points out-points' out-faces out-faces' r
        all_back read =
            let head = written_head (unit_of unit) (length points / 3) (length faces / 3) in
            comes_back comes (rw (le-leb _ _ points_room, le-leb _ _ faces_room, ← done.answered) refl) (read.unit_read head back.good ∙ back.unit_is)
            (read.points_read head back.good ∙ ap (λ (l : List Float). overlaid l out-points) back.points_are)
            (read.faces_read head back.good ∙ ap (λ (l : List ℕ). overlaid l out-faces) back.faces_are)
