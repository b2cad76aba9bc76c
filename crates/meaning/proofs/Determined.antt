-- The public entry's statement is tight: any two outcomes that it allows coincide, in the answer, in every lent cell and in the fold list.
-- Assumes nothing.
use Prim.Native.Nat.{ℕ}
use mathlib.Core.Path.{◌≡◌, sym, ◌∙◌}
use mathlib.Core.List.{List}
use Rattle.meaning.specs.Input.{Input}
use Rattle.meaning.specs.declared.Answer.{Answer}
use Rattle.meaning.specs.Call.{Lent, Answered, Thinned}

-- lent buffers with the same cells are the same
lent-path : {a b : Lent} → a.points ≡ b.points → a.faces ≡ b.faces → a.u32s ≡ b.u32s → a.f32s ≡ b.f32s → a.f64s ≡ b.f64s → a ≡ b
lent-path points faces u32s f32s f64s t = record { points = points t; faces = faces t; u32s = u32s t; f32s = f32s t; f64s = f64s t }

-- the answer and the lent buffers
pub determined-answer : (i : Input) {before after₁ after₂ : Lent} {r₁ r₂ : Answer} →
    Answered i before after₁ r₁ → Answered i before after₂ r₂ → (after₁ ≡ after₂) × (r₁ ≡ r₂)
determined-answer i a b = (
  lent-path
      (a.points_written ∙ sym b.points_written)
      (a.faces_written ∙ sym b.faces_written)
      (a.u32s_left ∙ sym b.u32s_left)
      (a.f32s_left ∙ sym b.f32s_left)
      (a.f64s_left ∙ sym b.f64s_left),
  a.answered ∙ sym b.answered,
)

-- and the fold list
pub determined : (i : Input) {before after₁ after₂ : Lent} {folds folds₁ folds₂ : List ℕ} {r₁ r₂ : Answer} →
    Thinned i before after₁ folds folds₁ r₁ → Thinned i before after₂ folds folds₂ r₂ → (after₁ ≡ after₂) × (r₁ ≡ r₂) × (folds₁ ≡ folds₂)
determined i a b =
    let same = determined-answer i a.answered b.answered in
    (same.0, same.1, a.folds_listed ∙ sym b.folds_listed)
