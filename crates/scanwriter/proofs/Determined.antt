-- The writer's statement is tight: any two outcomes that it allows coincide.
-- Assumes nothing.
use Prim.Native.Nat.{ℕ}
use mathlib.Core.Path.{◌≡◌, sym, ◌∙◌}
use mathlib.Core.List.{List}
use lib.Ieee.{Float}
use Rattle.std.specs.Prelude.{Result}
use Rattle.scanwriter.specs.declared.WriteFault.{WriteFault}
use Rattle.scanwriter.specs.Written.{ScanWritten}

-- write_scan: the answer, and every byte of the buffer
pub writing-determined : (unit : ℕ) (points : List Float) (faces old : List ℕ) {new₁ new₂ : List ℕ} {r₁ r₂ : Result ℕ WriteFault} →
    ScanWritten unit points faces old new₁ r₁ → ScanWritten unit points faces old new₂ r₂ → (r₁ ≡ r₂) × (new₁ ≡ new₂)
writing-determined unit points faces old a b = (a.answered ∙ sym b.answered, a.written ∙ sym b.written)
