-- The reader's statements are tight: any two outcomes that one of them allows coincide.
-- Assumes nothing.
use Prim.Native.Nat.{ℕ}
use mathlib.Core.Path.{◌≡◌, sym, ◌∙◌}
use mathlib.Core.List.{List}
use lib.Ieee.{Float}
use Rattle.lists.specs.Lists.{overlaid}
use Rattle.scanfile.specs.Scans.{Scan, scan_of}
use Rattle.scanfile.specs.Contents.{points_of, face_numbers_of, margin_of}
use Rattle.scanfile.specs.Told.{number_of, cells_of}

-- read_scan: what a file is
pub scan-determined : (bytes : List ℕ) {r₁ r₂ : Scan} → r₁ ≡ scan_of bytes → r₂ ≡ scan_of bytes → r₁ ≡ r₂
scan-determined bytes a b = a ∙ sym b

-- read_points, read_faces and read_margin: every cell of the list that they write to
pub points-determined : (bytes : List ℕ) (points : ℕ) (out : List Float) {out₁ out₂ : List Float} →
    out₁ ≡ overlaid (points_of bytes points) out → out₂ ≡ overlaid (points_of bytes points) out → out₁ ≡ out₂
points-determined bytes points out a b = a ∙ sym b

pub faces-determined : (bytes : List ℕ) (points faces : ℕ) (out : List ℕ) {out₁ out₂ : List ℕ} →
    out₁ ≡ overlaid (face_numbers_of bytes points faces) out → out₂ ≡ overlaid (face_numbers_of bytes points faces) out → out₁ ≡ out₂
faces-determined bytes points faces out a b = a ∙ sym b

pub margin-determined : (bytes : List ℕ) (points faces margin : ℕ) (out : List ℕ) {out₁ out₂ : List ℕ} →
    out₁ ≡ overlaid (margin_of bytes points faces margin) out → out₂ ≡ overlaid (margin_of bytes points faces margin) out → out₁ ≡ out₂
margin-determined bytes points faces margin out a b = a ∙ sym b

-- tell_scan: the number and the nine cells
pub told-determined : (bytes : List ℕ) {r₁ r₂ : ℕ} {cells₁ cells₂ : List ℕ} →
    (r₁ ≡ number_of (scan_of bytes)) × (cells₁ ≡ cells_of bytes (scan_of bytes)) →
    (r₂ ≡ number_of (scan_of bytes)) × (cells₂ ≡ cells_of bytes (scan_of bytes)) → (r₁ ≡ r₂) × (cells₁ ≡ cells₂)
told-determined bytes a b = (a.0 ∙ sym b.0, a.1 ∙ sym b.1)
