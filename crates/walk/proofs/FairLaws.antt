-- What a fold does to each face: the faces that hold both points are gone, and the others are there after it, under keep's number, as the fold test saw them.
-- Assumes nothing.
use Prim.Native.Nat.{ℕ, ◌≤◌, ◌<◌}
use native.Mathlib.Omega.{arith}
use mathlib.Core.Path.{◌≡◌, refl, sym, ap, subst, ◌∙◌}
use mathlib.Core.Logic.{◌≢◌, ◌⊎◌, inl, inr, ⊎_elim}
use mathlib.Core.List.Memᴰ
use mathlib.Core.List.{List, [], ◌∷◌, Memᴰ}
use mathlib.Core.Bool.{Bool, true, false, not, ◌||◌, or-true}
use lib.Dec.{leb, eqb}
use lib.ListN.{length, get_or, drop}
use lib.Seq.{get_or-set_same, get_or-set_other}
use borrow.Author.Tests.{leb-true, eqb-true, eqb-false, not-true}
use Rattle.lists.proofs.TestLaws.{by-test, clash, both_true, neither-of, eqb-sym}
use Rattle.lists.proofs.MemberLaws.{member-those, those-member, member-map, map-member}
use Rattle.walk.specs.declared.Face.{Face}
use Rattle.walk.specs.declared.Pair.{Pair}
use Rattle.walk.specs.declared.Reason.{Reason}
use Rattle.walk.specs.declared.Reason.TheVariants.{NotLinked, Squashed, TurnedOver}
use Rattle.std.specs.Prelude.{⊤, Result, Ok, Err}
use Rattle.walk.specs.Faces.{holds, both, shared, common, renamed, renamed_face, Rules, Mesh, data_of, merged_of}
use Rattle.walk.specs.Fold.{folded_faces, folded_mesh}
use Rattle.walk.specs.FoldTest.{linked, asked, harm, or_else, first_harm, moved_of, by_rule, face_test, fold_test}
use Rattle.walk.proofs.EligibleLaws.{other-same}

-- ---- which faces there are after a fold

-- one that does not hold both points is there, renamed
pub face-stays : (faces : List Face) (p : Pair) (f : Face) → Memᴰ f faces → both p.keep p.remove f ≡ false
    → Memᴰ (renamed_face p.keep p.remove f) (folded_faces faces p)
unfolding folded_faces
face-stays faces p f m not-both =
    member-map (renamed_face p.keep p.remove) _ f (member-those (λ g. not (both p.keep p.remove g)) faces f m (rw not-both))

-- and each that is there is one of these, renamed
pub face-was : (faces : List Face) (p : Pair) (g : Face) → Memᴰ g (folded_faces faces p)
    → (f : Face) × Memᴰ f faces × (both p.keep p.remove f ≡ false) × (g ≡ renamed_face p.keep p.remove f)
unfolding folded_faces
face-was faces p g m =
    let was = map-member (renamed_face p.keep p.remove) _ g m in
    let f = was.0 in
    let left = those-member (λ h. not (both p.keep p.remove h)) faces f was.1 in
    (f, left.0, not-true (both p.keep p.remove f) left.1, was.2)

-- a face that does not hold remove keeps its numbers
renamed-same : (k r x : ℕ) → eqb r x ≡ false → renamed k r x ≡ x
renamed-same k r x e = rw (eqb-sym x r, e)

pub face-same : (k r : ℕ) (f : Face) → holds r f ≡ false → renamed_face k r f ≡ f
face-same k r f h =
    let c = neither-of (eqb r f.a || eqb r f.b) (eqb r f.c) h in
    let ab = neither-of (eqb r f.a) (eqb r f.b) c.0 in
    λ t. record { a = renamed-same k r f.a ab.0 t; b = renamed-same k r f.b ab.1 t; c = renamed-same k r f.c c.1 t }

-- ---- what the fold test tells

-- the reason that an answer tells; one that allows tells none, and any stands for it
abbrev why : Result ⊤ Reason → Reason
why (Ok _) = NotLinked
why (Err reason) = reason

-- of two answers neither of which says no
pub both-allowed : (t u : Result ⊤ Reason) → or_else t u ≡ Ok tt → (t ≡ Ok tt) × (u ≡ Ok tt)
unfolding or_else
both-allowed (Ok _) u e = (refl, e)
both-allowed (Err reason) u e = let z : ◌≡◌ {A = ℕ} 0 1 = cc in absurd (omega arith)

-- a face that is asked and passes is neither squashed nor turned over
pub harmless : (number : ℕ) (is squashed turned : Bool) → harm number is squashed turned ≡ Ok tt → is ≡ true → (squashed ≡ false) × (turned ≡ false)
unfolding harm
harmless number true false false e is = (refl, refl)
harmless number true true true e is = let z : ◌≡◌ {A = ℕ} 0 1 = cc in absurd (omega arith)
harmless number true true false e is = let z : ◌≡◌ {A = ℕ} 0 1 = cc in absurd (omega arith)
harmless number true false true e is = let z : ◌≡◌ {A = ℕ} 0 1 = cc in absurd (omega arith)
harmless number false squashed turned e is = absurd (clash is refl)

-- and one that doesn't pass is asked, and squashed, or else turned over
pub harmed-why : (number : ℕ) (is squashed turned : Bool) (reason : Reason) → harm number is squashed turned ≡ Err reason →
    (is ≡ true) × (((squashed ≡ true) × (Squashed number ≡ reason)) ⊎ ((squashed ≡ false) × (turned ≡ true) × (TurnedOver number ≡ reason)))
unfolding harm
harmed-why number true true true reason e = (refl, inl (refl, ap why e))
harmed-why number true true false reason e = (refl, inl (refl, ap why e))
harmed-why number true false true reason e = (refl, inr (refl, refl, ap why e))
harmed-why number true false false reason e = let z : ◌≡◌ {A = ℕ} 0 1 = cc in absurd (omega arith)
harmed-why number false squashed turned reason e = let z : ◌≡◌ {A = ℕ} 0 1 = cc in absurd (omega arith)

-- where the first that fails is none, every face passes, whatever its number
all_pass : {P : Face → Type 0} (test : ℕ → Face → Result ⊤ Reason) → ((number : ℕ) (f : Face) → test number f ≡ Ok tt → P f) →
    (faces : List Face) (numbers : List ℕ) → first_harm test faces numbers ≡ Ok tt → (f : Face) → Memᴰ f faces → P f
unfolding first_harm
all_pass test says [] numbers e f m = absurd (Memᴰ.not-nil m)
all_pass {P} test says (g ∷ faces) numbers e f m =
    let two = both-allowed (test (get_or numbers 0 0) g) (first_harm test faces (drop 1 numbers)) e in
    ⊎_elim
    (λ here. subst P (sym (Memᴰ.eq_of_singleton here)) (says (get_or numbers 0 0) g two.0))
    (λ later. all_pass test says faces (drop 1 numbers) two.1 f later)
    (Memᴰ.append_cases (g ∷ []) m)

-- a fold that isn't allowed: the points are not linked, or they are, and the reason is that of the first face that fails
pub not-allowed : {D : Type 0} (rules : Rules D) (m : Mesh D) (p : Pair) (reason : Reason) → fold_test rules m p ≡ Err reason →
    ((linked (length m.points) m.faces p.keep p.remove ≡ false) × (NotLinked ≡ reason))
    ⊎ ((linked (length m.points) m.faces p.keep p.remove ≡ true) × (first_harm (face_test rules m p) m.faces m.numbers ≡ Err reason))
unfolding fold_test
not-allowed rules m p reason e =
    by-test (linked (length m.points) m.faces p.keep p.remove)
    (λ t. inr (t, rw t at e))
    (λ t. let none : Err NotLinked ≡ Err reason = rw t at e in inl (t, ap why none))

module _ {D : Type 0} (rules : Rules D) (m : Mesh D) (p : Pair) (is-allowed : fold_test rules m p ≡ Ok tt) where
  -- the points are linked, and no face fails
  two-parts : (linked (length m.points) m.faces p.keep p.remove ≡ true) × (first_harm (face_test rules m p) m.faces m.numbers ≡ Ok tt)
  unfolding fold_test
  two-parts =
      by-test (linked (length m.points) m.faces p.keep p.remove)
      (λ t. (t, rw t at is-allowed))
      (λ t. let z : ◌≡◌ {A = ℕ} 0 1 = cc (rw t at is-allowed) in absurd (omega arith))

  -- the faces that hold both number at least 1
  pub shared-least : 1 ≤ shared m.faces p.keep p.remove
  shared-least = leb-true 1 (shared m.faces p.keep p.remove) (both_true (leb 1 (shared m.faces p.keep p.remove)) _ two-parts.0).0

  -- and the common neighbours number the same
  pub common-same : common (length m.points) m.faces p.keep p.remove ≡ shared m.faces p.keep p.remove
  common-same =
      eqb-true (common (length m.points) m.faces p.keep p.remove) (shared m.faces p.keep p.remove)
      (both_true (leb 1 (shared m.faces p.keep p.remove)) _ two-parts.0).1

  -- each live face that is asked is neither squashed nor turned over
  pub face-fair : (f : Face) → Memᴰ f m.faces → asked p.keep p.remove f ≡ true
      → (by_rule rules rules.squashed m p f ≡ false) × (by_rule rules rules.turned m p f ≡ false)
  unfolding face_test
  face-fair f live =
      all_pass {P = λ g. asked p.keep p.remove g ≡ true → (by_rule rules rules.squashed m p g ≡ false) × (by_rule rules rules.turned m p g ≡ false)}
      (face_test rules m p)
      (λ number g e.
      harmless number (asked p.keep p.remove g) (by_rule rules rules.squashed m p g) (by_rule rules rules.turned m p g) e)
      m.faces m.numbers two-parts.1 f live

-- ---- what the points carry after a fold

module _ {D : Type 0} (rules : Rules D) (m : Mesh D) (p : Pair) (k_r : p.keep ≢ p.remove) (k-v : p.keep < length m.points) where
  -- what the fold test takes a point to carry is what its number after the fold carries
  pub moved-is : (x : ℕ) → moved_of rules m p x ≡ data_of rules (folded_mesh rules m p) (renamed p.keep p.remove x)
  unfolding folded_mesh
  moved-is x =
      let here : data_of rules (folded_mesh rules m p) p.keep ≡ merged_of rules m p =
      get_or-set_same m.points p.keep (merged_of rules m p) rules.blank k-v in
      by-test (eqb x p.remove)
      (λ r. rw (r, or-true) (sym here))
      (λ r. by-test (eqb x p.keep)
      (λ k. rw (r, k, eqb-true x p.keep k) (sym here))
      (λ k. rw (r, k) (sym (get_or-set_other m.points p.keep x (merged_of rules m p) rules.blank (eqb-false x p.keep k)))))

  -- a rule asked of a face by the fold test is asked of its points in the mesh before the fold and, renamed, in the mesh after it
  abbrev pub after_by : (D → D → D → D → D → D → Bool) → Face → Bool
  after_by rule f =
      rule
      (data_of rules m f.a) (data_of rules m f.b) (data_of rules m f.c)
      (data_of rules (folded_mesh rules m p) (renamed p.keep p.remove f.a))
      (data_of rules (folded_mesh rules m p) (renamed p.keep p.remove f.b))
      (data_of rules (folded_mesh rules m p) (renamed p.keep p.remove f.c))

  by-rule-after : (rule : D → D → D → D → D → D → Bool) (f : Face) → by_rule rules rule m p f ≡ after_by rule f
  by-rule-after rule f = λ t. rule (data_of rules m f.a) (data_of rules m f.b) (data_of rules m f.c) (moved-is f.a t) (moved-is f.b t) (moved-is f.c t)

  -- after a fold that is allowed a live face that holds just one of the two is neither squashed nor turned over
  pub one-fair : fold_test rules m p ≡ Ok tt → (f : Face) → Memᴰ f m.faces → (holds p.keep f || holds p.remove f) ≡ true →
      both p.keep p.remove f ≡ false → (after_by rules.squashed f ≡ false) × (after_by rules.turned f ≡ false)
  one-fair is-allowed f live one not-both =
      let fair = face-fair rules m p is-allowed f live (rw (one, not-both)) in
      (sym (by-rule-after rules.squashed f) ∙ fair.0, sym (by-rule-after rules.turned f) ∙ fair.1)

-- a point of a face that does not hold keep carries after the fold what it carried before
pub neither-same : {D : Type 0} (rules : Rules D) (m : Mesh D) (p : Pair) (f : Face) → holds p.keep f ≡ false
    → (x : ℕ) → holds x f ≡ true → data_of rules (folded_mesh rules m p) x ≡ data_of rules m x
neither-same rules m p f without x has = other-same rules m p x (λ e. clash (ap (λ y. holds y f) (sym e) ∙ has) without)
