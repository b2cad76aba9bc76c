-- The face that a refusal names: the lowest that is not proper, 8 before 9.
use Prim.Native.Nat.{ℕ, suc, ◌+◌}
use native.Mathlib.Nat.{add-zero}
use native.Mathlib.Omega.{arith}
use mathlib.Core.Path.{◌≡◌, sym, ap}
use mathlib.Core.Logic.{⊎_elim}
use mathlib.Core.List.{List, [], ◌∷◌}
use mathlib.Core.Bool.{true, false, cond, true≢false}
use Rattle.walk.specs.declared.Face.{Face}
use Rattle.lists.proofs.FirstLaws.{first-here, first-there}
use Rattle.std.specs.Prelude.{Err, is_ok}
use Rattle.meaning.specs.declared.Refusal.{Refusal}
use Rattle.meaning.specs.declared.Refusal.TheVariants.{PointOutside, PointTwice}
use Rattle.meaning.specs.Answers.{number_of, place_of, outside, doubled, face_verdict}
use Rattle.meaning.proofs.VerdictOrder.{decided}
use Rattle.meaning.proofs.FaceVerdictLaws.{proper-is, proper-of}
use Rattle.checks.specs.Facts.{LowestBad}

-- a refusal of the faces names the lowest bad one, where the first of the list has number k
pub lowest-of : (v k : ℕ) (fs : List Face) {r : Refusal} → face_verdict v k fs ≡ Err r →
    (j : ℕ) × ((place_of r ≡ k + j) × LowestBad v fs (number_of r) j)
unfolding face_verdict
lowest-of v k [] e = absurd (true≢false (ap is_ok e))
lowest-of v k (f ∷ fs) {r} e =
    ⊎_elim
    (λ (o : (outside v f ≡ true) × (Err (PointOutside k) ≡ Err r)).
    let told : PointOutside k ≡ r = cc in
    let here : (j : ℕ) × ((k ≡ k + j) × LowestBad v (f ∷ fs) 8 j) = (0, (sym (add-zero k), record { lowest = first-here _ _ f fs (rw (proper-is, o.0)); number = rw o.0 })) in
    rw (← told) here)
    (λ (o : (outside v f ≡ false) × (cond (doubled f) (Err (PointTwice k)) (face_verdict v (suc k) fs) ≡ Err r)).
    ⊎_elim
    (λ (d : (doubled f ≡ true) × (Err (PointTwice k) ≡ Err r)).
    let told : PointTwice k ≡ r = cc in
    let here : (j : ℕ) × ((k ≡ k + j) × LowestBad v (f ∷ fs) 9 j) = (0, (sym (add-zero k), record { lowest = first-here _ _ f fs (rw (proper-is, o.0, d.0)); number = rw o.0 })) in
    rw (← told) here)
    (λ (d : (doubled f ≡ false) × (face_verdict v (suc k) fs ≡ Err r)).
    let l = lowest-of v (suc k) fs d.1 in
    (suc l.0, (omega arith, record { lowest = first-there _ _ f fs (rw (proper-of v f o.0 d.0)) l.1.1.lowest; number = l.1.1.number })))
    (decided (doubled f) _ _ o.1))
    (decided (outside v f) _ _ e)
