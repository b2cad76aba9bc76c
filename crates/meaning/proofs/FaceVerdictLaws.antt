-- What the faces' verdict says of them: they are admitted exactly where all are proper.
-- Assumes nothing.
use Prim.Native.Nat.{ℕ, zero, suc, ◌+◌}
use native.Mathlib.Nat.{add-zero, not-suc-le-zero}
use native.Mathlib.Omega.{arith}
use mathlib.Core.Path.{◌≡◌, refl, sym, ap, ◌∙◌}
use mathlib.Core.List.{List, [], ◌∷◌}
use mathlib.Core.Bool.{Bool, true, false, not, ◌&&◌, ◌||◌, cond}
use mathlib.Mathlib.Data.Bool.Basic.{and_intro}
use borrow.Author.Tests.{not-true}
use lib.Dec.{ltb, eqb}
use lib.ListN.{get_or}
use Rattle.walk.specs.declared.Face.{Face}
use Rattle.lists.specs.Lists.{every, some, FirstAt}
use Rattle.lists.proofs.TestLaws.{by-test, both_true, neither-of}
use Rattle.lists.proofs.FirstLaws.{first-later}
use Rattle.walk.specs.Faces.{proper}
use Rattle.std.specs.Prelude.{Ok, Err, is_ok}
use Rattle.meaning.specs.declared.Refusal.TheVariants.{PointOutside, PointTwice}
use Rattle.meaning.specs.Answers.{outside, doubled, face_verdict}
use Rattle.meaning.proofs.VerdictOrder.{goes_on, past}

-- a face is proper exactly where neither 8 nor 9 holds of it
by-truth : (inside ab bc ca : Bool) → (inside && not ab && not bc && not ca) ≡ (not (not inside) && not (ab || bc || ca))
by-truth false ab bc ca = refl
by-truth true true bc ca = refl
by-truth true false true ca = refl
by-truth true false false ca = refl

pub proper-is : (v : ℕ) (f : Face) → proper v f ≡ (not (outside v f) && not (doubled f))
proper-is v f = by-truth (ltb f.a v && ltb f.b v && ltb f.c v) (eqb f.a f.b) (eqb f.b f.c) (eqb f.c f.a)

-- so a face is proper that neither holds of
pub proper-of : (v : ℕ) (f : Face) → outside v f ≡ false → doubled f ≡ false → proper v f ≡ true
proper-of v f o d = proper-is v f ∙ rw (o, d)

-- no face is refused exactly where every face is proper
pub faces-proper-of : (v k : ℕ) (fs : List Face) → face_verdict v k fs ≡ Ok tt → every (proper v) fs ≡ true
unfolding face_verdict every
faces-proper-of v k [] e = refl
faces-proper-of v k (f ∷ fs) e =
    let o = past is_ok (outside v f) (Err (PointOutside k)) _ refl refl e in
    let d = past is_ok (doubled f) (Err (PointTwice k)) _ refl refl o.1 in
    and_intro (proper-of v f o.0 d.0) (faces-proper-of v (suc k) fs d.1)

-- and back
pub faces-admitted : (v k : ℕ) (fs : List Face) → every (proper v) fs ≡ true → face_verdict v k fs ≡ Ok tt
unfolding face_verdict every
faces-admitted v k [] e = refl
faces-admitted v k (f ∷ fs) e =
    let each = both_true (proper v f) _ e in
    let parts = both_true (not (outside v f)) (not (doubled f)) (sym (proper-is v f) ∙ each.0) in
    sym
    (goes_on (outside v f) _ (Err (PointOutside k)) _ _ refl (not-true _ parts.0)
    (goes_on (doubled f) _ (Err (PointTwice k)) _ _ refl (not-true _ parts.1) (sym (faces-admitted v (suc k) fs each.1))))

-- ---- the face that decides

-- a face that 8 or 9 holds of
abbrev pub bad_face : ℕ → Face → Bool
bad_face v f = outside v f || doubled f

-- the lowest one decides, by 8 where that holds of it, else by 9. The first face of the list has number k.
pub lowest-decides : (v k : ℕ) (past : Face) (fs : List Face) (j : ℕ) → FirstAt (bad_face v) past fs j →
    face_verdict v k fs ≡ Err (cond (outside v (get_or fs j past)) (PointOutside (k + j)) (PointTwice (k + j)))
unfolding face_verdict
lowest-decides v k past [] j f = absurd (not-suc-le-zero f.within)
lowest-decides v k past (x ∷ fs) zero f =
    by-test (outside v x)
    (λ o. rw (o, add-zero))
    (λ o. let d : doubled x ≡ true = rw o at f.passes in rw (o, d, add-zero))
lowest-decides v k past (x ∷ fs) (suc j) f =
    let good = neither-of (outside v x) (doubled x) (f.none_before 0 (omega arith)) in
    let next : suc k + j ≡ k + suc j = omega arith in
    rw (good.0, good.1)
    (lowest-decides v (suc k) past fs j (first-later (bad_face v) past x fs f)
    ∙ ap (λ (place : ℕ). Err (cond (outside v (get_or fs j past)) (PointOutside place) (PointTwice place))) next)

-- where there is none, the faces are admitted
pub none-decides : (v k : ℕ) (fs : List Face) → some (bad_face v) fs ≡ false → face_verdict v k fs ≡ Ok tt
unfolding face_verdict some
none-decides v k [] none = refl
none-decides v k (x ∷ fs) none =
    let rest = neither-of (bad_face v x) (some (bad_face v) fs) none in
    let good = neither-of (outside v x) (doubled x) rest.0 in
    rw (good.0, good.1) (none-decides v (suc k) fs rest.1)
