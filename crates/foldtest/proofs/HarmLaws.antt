-- From the faces listed around two points to all live faces: a live face that holds just one of the two is in one of the lists, so the lowest that is harmed in
-- either is the lowest of all. Assumes nothing.
use Prim.Native.Nat.{ℕ, ◌*◌, ◌≤◌, ◌<◌}
use native.Mathlib.Omega.{arith}
use mathlib.Core.Path.{◌≡◌, refl, sym, ap, ◌∙◌}
use mathlib.Core.Logic.{◌≢◌, ⊎_elim}
use mathlib.Core.List.{List}
use mathlib.Core.Bool.{Bool, true, false, not, ◌&&◌, ◌||◌, cond}
use lib.Dec.{ltb, eqb}
use lib.Ieee.{Float}
use lib.ListN.{length}
use borrow.Author.Tests.{ltb-true, lt-ltb, eqb-true, eqb-false}
use Rattle.geometry.specs.declared.Point.{Point}
use Rattle.walk.specs.declared.Face.{Face}
use Rattle.walk.specs.declared.Reason.{Reason}
use Rattle.std.specs.Prelude.{⊤, Result, Ok, is_err}
use Rattle.lists.specs.Lists.{stretch}
use Rattle.walk.specs.Faces.{holds, proper, face_at}
use Rattle.walk.specs.FoldTest.{asked, harm, first_harm}
use Rattle.lists.proofs.TestLaws.{by-test, both_true, clash}
use Rattle.lists.proofs.BelowLaws.{term-le}
use Rattle.walk.proofs.FaceLaws.{corners}
use Rattle.walk.proofs.FirstLaws.{live-none, live-lowest}
use Rattle.memory.specs.Memory.{lives, live_faces, live_numbers, live_at}
use Rattle.mesh.specs.Clauses.Around.{Gathered}
use Rattle.foldtest.specs.Clauses.Fair.{Placed, squashed_at, turned_at, harmed, harm_at}
use Rattle.foldtest.specs.Clauses.Lowest.{lowest_of, LowestHarm}
use Rattle.foldtest.proofs.LowestLaws.{lowest-le, lowest-none, lowest-found}

-- ---- one face

-- the points of a proper face stand in a memory that holds all points
pub face-placed : (v : ℕ) {p : List Float} {read face : Face} → read ≡ face → proper v face ≡ true → 3 * v ≤ length p → Placed p read
face-placed v {p} {read} {face} e good long =
    let c = corners v read (ap (proper v) e ∙ good) in
    record { a_in = omega arith; b_in = omega arith; c_in = omega arith }

-- what is told of a face that is asked says whether it is harmed
err-either : (number : ℕ) (s t : Bool) → is_err (harm number true s t) ≡ (s || t)
unfolding harm
err-either number true t = refl
err-either number false true = refl
err-either number false false = refl

either-not : (number : ℕ) (s t : Bool) → (s || t) ≡ true → harm number true s t ≢ Ok tt
either-not number s t some e = clash some (sym (err-either number s t) ∙ ap is_err e)

-- a face that doesn't hold the other point is harmed where the test doesn't allow it
pub is-harmed : (p : List Float) (keep remove : ℕ) (place : Point) (other : ℕ) {read face : Face} → read ≡ face → {held : Bool} → held ≡ holds other read → held ≡ false →
    (k : ℕ) {t : Result ⊤ Reason} → t ≡ harm k true (squashed_at p keep remove place read) (turned_at p keep remove place read) →
    {r : Bool} → r ≡ is_err t → r ≡ harmed p keep remove place other face
is-harmed p keep remove place other same answer left k told e = rw (← same, ← answer, left) (e ∙ ap is_err told ∙ err-either k _ _)

-- ---- a list of the faces around a point

module _ {v f : ℕ} {w : List ℕ} {x base n : ℕ} (h : Gathered v f w x base n) (test : ℕ → Bool) (best : ℕ) where
  abbrev low : ℕ
  low = lowest_of test best (stretch w base n)

  -- a live face that holds the point and is below the lowest fails
  flag-none : (a b : Bool) → cond a (cond b 1 0) 0 ≤ 0 → a ≡ true → b ≡ false
  flag-none true true most e = absurd (omega arith)
  flag-none true false most e = refl
  flag-none false b most e = clash e refl

  pub listed-none : (k : ℕ) → k < f → k < low → live_at f w x k ≡ true → test k ≡ false
  listed-none k l under is =
      let all = h.sums (λ j. cond (ltb j low && test j) 1 0) in
      let none : (ltb k low && test k) ≡ false =
      flag-none (live_at f w x k) (ltb k low && test k)
      (omega (arith, all, lowest-none test best (stretch w base n), term-le (λ j. cond (live_at f w x j) (cond (ltb j low && test j) 1 0) 0) k f l)) is in
      rw (lt-ltb k low under) at none

  -- one that is below the bound is such a face, and passes
  pub listed_found : low ≢ best → (low < f) × (live_at f w x low ≡ true) × (test low ≡ true)
  listed_found moved =
      ⊎_elim
      (λ e. absurd (moved e))
      (λ found. let here = both_true (ltb low f) (live_at f w x low) found.0 in (ltb-true low f here.0, here.1, found.1))
      (lowest-found test (λ k. ltb k f && live_at f w x k) best (stretch w base n) h.slots_live)

-- ---- both lists

-- a face that isn't harmed at either point is allowed
neither-harms : (number : ℕ) (k r s t : Bool) → (k ≡ true → (not r && (s || t)) ≡ false) → (r ≡ true → (not k && (s || t)) ≡ false) →
    harm number ((k || r) && not (k && r)) s t ≡ Ok tt
unfolding harm
neither-harms number true true s t one two = refl
neither-harms number false false s t one two = refl
neither-harms number true false false false one two = refl
neither-harms number true false true t one two = clash refl (one refl)
neither-harms number true false false true one two = clash refl (one refl)
neither-harms number false true false false one two = refl
neither-harms number false true true t one two = clash refl (two refl)
neither-harms number false true false true one two = clash refl (two refl)

-- one that is holds just one of the two
just-one : (k r h : Bool) → k ≡ true → (not r && h) ≡ true → (((k || r) && not (k && r)) ≡ true) × (h ≡ true)
just-one true false h e harms = (refl, harms)
just-one true true h e harms = clash harms refl
just-one false r h e harms = clash e refl

just-other : (k r h : Bool) → r ≡ true → (not k && h) ≡ true → (((k || r) && not (k && r)) ≡ true) × (h ≡ true)
just-other false true h e harms = (refl, harms)
just-other true r h e harms = clash harms refl
just-other false false h e harms = clash e refl

module _ (p : List Float) (place : Point) {v f : ℕ} {w : List ℕ} {keep remove near n far m : ℕ}
    (at-keep : Gathered v f w keep near n) (at-remove : Gathered v f w remove far m) where
  abbrev keeps : ℕ → Bool
  keeps k = harmed p keep remove place remove (face_at w k)

  abbrev removes : ℕ → Bool
  removes k = harmed p keep remove place keep (face_at w k)

  abbrev nearest : ℕ
  nearest = lowest_of keeps f (stretch w near n)

  abbrev lowest : ℕ
  lowest = lowest_of removes nearest (stretch w far m)

  -- below it none is harmed
  none-harmed : (j : ℕ) → j < lowest → lives f w j ≡ true → harm_at p keep remove place j (face_at w j) ≡ Ok tt
  unfolding harm_at
  none-harmed j under is =
      let first = lowest-le keeps f (stretch w near n) in
      let second = lowest-le removes nearest (stretch w far m) in
      let face = face_at w j in
      neither-harms j (holds keep face) (holds remove face) (squashed_at p keep remove place face) (turned_at p keep remove place face)
      (λ k. listed-none at-keep keeps f j (omega (arith, first, second)) (omega (arith, second)) (rw (is, k)))
      (λ r. listed-none at-remove removes nearest j (omega (arith, first, second)) under (rw (is, r)))

  -- it is one of the first list, or of the second
  found-near : nearest < f →
      (lives f w nearest ≡ true) × (asked keep remove (face_at w nearest) ≡ true)
      × ((squashed_at p keep remove place (face_at w nearest) || turned_at p keep remove place (face_at w nearest)) ≡ true)
  found-near l =
      let found = listed_found at-keep keeps f (λ e. absurd (omega (arith, e))) in
      let live = both_true (lives f w nearest) (holds keep (face_at w nearest)) found.1 in
      let one = just-one (holds keep (face_at w nearest)) (holds remove (face_at w nearest)) _ live.1 found.2 in
      (live.0, one.0, one.1)

  found-far : lowest ≢ nearest →
      (lives f w lowest ≡ true) × (asked keep remove (face_at w lowest) ≡ true)
      × ((squashed_at p keep remove place (face_at w lowest) || turned_at p keep remove place (face_at w lowest)) ≡ true)
  found-far moved =
      let found = listed_found at-remove removes nearest moved in
      let live = both_true (lives f w lowest) (holds remove (face_at w lowest)) found.1 in
      let one = just-other (holds keep (face_at w lowest)) (holds remove (face_at w lowest)) _ live.1 found.2 in
      (live.0, one.0, one.1)

  -- so it is the lowest of all
  pub lowest-harm : {a b : ℕ} → a ≡ lowest_of keeps f (stretch w near n) → b ≡ lowest_of removes a (stretch w far m) → LowestHarm f w p keep remove place b
  lowest-harm e d =
      rw (d, e)
      (record {
        within = omega (arith, lowest-le keeps f (stretch w near n), lowest-le removes nearest (stretch w far m));
        none_below = none-harmed;
        found = λ l.
            by-test (eqb lowest nearest)
            (λ t. let same = eqb-true lowest nearest t in rw same (found-near (omega (arith, same))))
            (λ t. found-far (eqb-false lowest nearest t));
      })

-- ---- what the faces say

module _ {f : ℕ} {w : List ℕ} {p : List Float} {keep remove : ℕ} {place : Point} {k : ℕ} (h : LowestHarm f w p keep remove place k) where
  -- none is harmed
  pub faces-allow : f ≤ k → Ok tt ≡ first_harm (harm_at p keep remove place) (live_faces f w) (live_numbers f w)
  unfolding live_faces
  faces-allow all = sym (live-none (harm_at p keep remove place) (face_at w) (lives f w) f (λ j l. h.none_below j (omega arith)))

  -- the lowest that is
  pub faces-refuse : k < f → {read : Face} → read ≡ face_at w k → {t : Result ⊤ Reason} →
      t ≡ harm k true (squashed_at p keep remove place read) (turned_at p keep remove place read) →
      t ≡ first_harm (harm_at p keep remove place) (live_faces f w) (live_numbers f w)
  unfolding live_faces harm_at
  faces-refuse l {read} same told =
      let found = h.found l in
      let s = squashed_at p keep remove place (face_at w k) in
      let t = turned_at p keep remove place (face_at w k) in
      let here : harm_at p keep remove place k (face_at w k) ≡ harm k true s t = ap (λ (b : Bool). harm k b s t) found.1 in
      rw same at told
      ∙ sym here
      ∙ sym (live-lowest (harm_at p keep remove place) (face_at w) (lives f w) f k l (λ j m. h.none_below j m) found.0
      (λ e. either-not k s t found.2 (sym here ∙ e)))
