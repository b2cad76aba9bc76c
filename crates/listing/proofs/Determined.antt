-- The listing's statements are tight: any two outcomes that one of them allows coincide, in the answer and in every cell of the lent buffer.
-- Assumes nothing.
use Prim.Native.Nat.{ℕ, ◌/◌}
use mathlib.Core.Path.{◌≡◌, sym, ◌∙◌}
use mathlib.Core.List.{List}
use mathlib.Core.Bool.{Bool}
use lib.Ieee.{Float}
use lib.ListN.{length}
use Rattle.std.specs.Prelude.{Option}
use Rattle.listing.specs.Texts.{refusal_text, mesh_text, refusal_fits, mesh_fits}
use Rattle.listing.specs.Written.{Prints}

-- any text, with room for it or not
prints-determined : (fits : Bool) (text : List ℕ) {out out₁ out₂ : List ℕ} {r₁ r₂ : Option ℕ} →
    Prints fits text out out₁ r₁ → Prints fits text out out₂ r₂ → (out₁ ≡ out₂) × (r₁ ≡ r₂)
prints-determined fits text a b = (a.written ∙ sym b.written, a.answered ∙ sym b.answered)

-- list_refusal
pub refusal-determined : (number place : ℕ) {out out₁ out₂ : List ℕ} {r₁ r₂ : Option ℕ} →
    Prints (refusal_fits (length out)) (refusal_text number place) out out₁ r₁ →
    Prints (refusal_fits (length out)) (refusal_text number place) out out₂ r₂ → (out₁ ≡ out₂) × (r₁ ≡ r₂)
refusal-determined number place {out} = prints-determined (refusal_fits (length out)) (refusal_text number place)

-- list_mesh
pub mesh-determined : (unit folds : ℕ) (points : List Float) (faces : List ℕ) {out out₁ out₂ : List ℕ} {r₁ r₂ : Option ℕ} →
    Prints (mesh_fits (length out) (length points / 3) (length faces / 3)) (mesh_text unit folds points faces) out out₁ r₁ →
    Prints (mesh_fits (length out) (length points / 3) (length faces / 3)) (mesh_text unit folds points faces) out out₂ r₂ →
    (out₁ ≡ out₂) × (r₁ ≡ r₂)
mesh-determined unit folds points faces {out} =
    prints-determined (mesh_fits (length out) (length points / 3) (length faces / 3)) (mesh_text unit folds points faces)
