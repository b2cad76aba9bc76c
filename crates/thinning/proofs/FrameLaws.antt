-- What is past the stages' own cells stays as it came, and what is stated is zero at the end.
-- Assumes nothing.
use Prim.Native.Nat.{ℕ, ◌+◌, ◌-◌, ◌≤◌}
use native.Mathlib.Omega.{arith}
use mathlib.Core.Path.{◌≡◌, sym, ap, ◌∙◌}
use mathlib.Core.List.{List, ◌++◌}
use lib.Ieee.{Float}
use lib.ListN.{length, drop, replicate, length-drop}
use lib.Seq.{ext_get_or, get_or-drop}
use Rattle.geometry.specs.Constants.{nought}
use Rattle.lists.specs.Frames.{But}
use Rattle.plainwalk.specs.Steps.{Within}
use Rattle.lists.proofs.DropLaws.{rest_more}
use Rattle.lists.proofs.OverlayLaws.{length-cleared}
use Rattle.walking.specs.Clauses.{Working}
use Rattle.thinning.specs.Clauses.{Zeroed}
use Rattle.memory.specs.Layout.{costs_to, places_to, f32s_needed, f64s_needed, u32s_needed}

-- cells past a change
rest-but : {hi : ℕ} {w w' : List ℕ} (n : ℕ) → But 0 hi w w' → hi ≤ n → drop n w' ≡ drop n w
rest-but {hi} {w} {w'} n but past =
    ext_get_or 0 (drop n w') (drop n w) (length-drop n w' ∙ ap (λ k. k - n) but.same_length ∙ sym (length-drop n w))
    (λ i l. get_or-drop n w' i 0 ∙ but.over (n + i) (omega arith) ∙ sym (get_or-drop n w i 0))

-- what is past the stated part is past the stages' own cells
pub zeroed-within : {v f : ℕ} {w w₁ w' : List ℕ} {p q p₁ q₁ p' q' : List Float} →
    Within v f w p q w₁ p₁ q₁ → Zeroed v f w₁ p₁ q₁ w' p' q' → Zeroed v f w p q w' p' q'
zeroed-within {v} {f} {w} {w₁} {w'} {p} {q} {p₁} {q₁} within zeroed = record {
  u32s = zeroed.u32s ∙ ap (λ (rest : List ℕ). replicate (u32s_needed v f) 0 ++ rest) (rest-but (u32s_needed v f) within.but (omega arith));
  f32s = zeroed.f32s ∙ ap (λ (rest : List Float). replicate (f32s_needed v f) nought ++ rest) (rest_more p₁ p (places_to v f) (f32s_needed v f) (omega arith) within.rest_p);
  f64s = zeroed.f64s ∙ ap (λ (rest : List Float). replicate (f64s_needed v f) nought ++ rest) (rest_more q₁ q (costs_to v f) (f64s_needed v f) (omega arith) within.rest_q);
}

-- no memory grows or shrinks
pub zeroed-lengths : {v f : ℕ} {w w' : List ℕ} {p q p' q' : List Float} → Working v f w p q → Zeroed v f w p q w' p' q' →
    (length w' ≡ length w) × (length p' ≡ length p) × (length q' ≡ length q)
zeroed-lengths {v} {f} {w} {w'} {p} {q} room zeroed = (
  ap length zeroed.u32s ∙ length-cleared 0 (u32s_needed v f) w room.u32s.long,
  ap length zeroed.f32s ∙ length-cleared nought (f32s_needed v f) p room.f32s,
  ap length zeroed.f64s ∙ length-cleared nought (f64s_needed v f) q room.f64s,
)
