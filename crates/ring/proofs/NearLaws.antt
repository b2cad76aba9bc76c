-- The faces around a point, as a gathered list of slots and as live faces of the mesh: what a test says of the one it says of the other.
-- Assumes nothing.
use Prim.Native.Nat.{ℕ, ◌<◌}
use mathlib.Core.Path.{◌≡◌, refl, sym, ap, ap₂, ◌∙◌}
use mathlib.Core.List.{List, [], ◌∷◌}
use mathlib.Core.Bool.{Bool, true, false, not, ◌&&◌, ◌||◌, cond, and_assoc, and_comm, and-true, and-false}
use mathlib.Mathlib.Data.Bool.Basic.{and_elim_left, and_elim_right}
use lib.Dec.{ltb, eqb}
use borrow.Author.Tests.{ltb-true}
use Rattle.walk.specs.declared.Face.{Face}
use Rattle.lists.specs.Lists.{some, stretch}
use Rattle.walk.specs.Faces.{holds, both, neighbour, runs, face_at}
use Rattle.walk.specs.Pairs.{pair_of, rises}
use Rattle.lists.proofs.TestLaws.{by-test}
use Rattle.lists.proofs.SumLaws.{sum_same}
use Rattle.lists.proofs.EveryLaws.{some-count}
use Rattle.walk.proofs.FaceLaws.{runs-both}
use Rattle.memory.specs.Memory.{lives, live_faces, Proper, near_at, live_at}
use Rattle.mesh.specs.Clauses.Around.{Gathered}
use Rattle.lists.proofs.CondLaws.{cond-and}
use Rattle.lists.proofs.BelowLaws.{every-each}
use Rattle.mesh.proofs.AroundLaws.{gathered-sums}
use Rattle.ring.specs.declared.Neighbours.{Neighbours}
use Rattle.ring.specs.declared.Neighbours.TheVariants.{Rising, Every}
use Rattle.ring.specs.Clauses.Listing.{is_around}
use Rattle.ring.specs.Clauses.Wanting.{Near, wanted}
use Rattle.memory.specs.Layout.{near_from}

-- ---- live faces and gathered slots

pub some-around : {v f : ℕ} {w : List ℕ} {x base n : ℕ} → Gathered v f w x base n → (test : Face → Bool) →
    some (λ k. test (face_at w k)) (stretch w base n) ≡ some (λ face. holds x face && test face) (live_faces f w)
some-around {v} {f} {w} {x} {base} {n} gathered test =
    some-count (λ k. test (face_at w k)) (stretch w base n)
    ∙ ap (ltb 0)
    (gathered-sums gathered (λ face. cond (test face) 1 0)
    ∙ sum_same _ _ (λ face. sym (cond-and (holds x face) (test face) 1)) (live_faces f w))
    ∙ sym (some-count (λ face. holds x face && test face) (live_faces f w))

-- each slot names a proper face
pub near-gathered : {v f : ℕ} {w : List ℕ} {x n : ℕ} → Proper v f w → Gathered v f w x (near_from v f) n → Near v f w n
near-gathered {v} {f} {w} {x} {n} good gathered i l =
    let k = near_at v f w i in
    let passed : (ltb k f && live_at f w x k) ≡ true = every-each (λ k. ltb k f && live_at f w x k) (near_at v f w) n gathered.slots_live i l in
    let inside : k < f = ltb-true k f (and_elim_left (ltb k f) (live_at f w x k) passed) in
    (inside, good k inside (and_elim_left (lives f w k) (holds x (face_at w k)) (and_elim_right (ltb k f) (live_at f w x k) passed)))

-- ---- what is asked of the faces around a point

-- a test that hangs on no face
some_with : {A : Type 0} (b : Bool) (test : A → Bool) (xs : List A) → some (λ a. b && test a) xs ≡ (b && some test xs)
unfolding some
some_with b test [] = by-test b (λ e. rw e) (λ e. rw e)
some_with b test (a ∷ xs) = rw (some_with b test xs) (by-test b (λ e. rw e) (λ e. rw e))

some_same : {A : Type 0} (test other : A → Bool) → ((a : A) → test a ≡ other a) → (xs : List A) → some test xs ≡ some other xs
unfolding some
some_same test other same [] = refl
some_same test other same (a ∷ xs) = ap₂ ◌||◌ (same a) (some_same test other same xs)

-- a test that implies two others
and-implied : (a b c : Bool) → (c ≡ true → (a && b) ≡ true) → (a && (b && c)) ≡ c
and-implied a b true h = sym (and_assoc a b true) ∙ and-true (a && b) ∙ h refl
and-implied a b false h = sym (and_assoc a b false) ∙ and-false (a && b)

-- after a fold: the neighbours of x
wanted-neighbour : (faces : List Face) (x u : ℕ) → some (λ face. holds x face && (holds u face && wanted Every x u face)) faces ≡ neighbour faces x u
wanted-neighbour faces x u =
    some_same _ _ (λ face. sym (and_assoc (holds x face) (holds u face) (not (eqb x u))) ∙ and_comm (both x u face) (not (eqb x u))) faces
    ∙ some_with (not (eqb x u)) (both x u) faces
    ∙ ap (λ (t : Bool). not (eqb x u) && t) (some-count (both x u) faces)

-- at the start: the ends of the edges that rise from x
wanted-rises : (faces : List Face) (x u : ℕ) → some (λ face. holds x face && (holds u face && wanted Rising x u face)) faces ≡ rises faces (pair_of x u)
wanted-rises faces x u =
    some_same _ _
    (λ face. and-implied (holds x face) (holds u face) (ltb x u && runs x u face) (λ t. runs-both x u face (and_elim_right (ltb x u) (runs x u face) t))) faces
    ∙ some_with (ltb x u) (runs x u) faces

-- either way: the points around x
pub wanted-around : (which : Neighbours) (faces : List Face) (x u : ℕ) →
    some (λ face. holds x face && (holds u face && wanted which x u face)) faces ≡ is_around which faces x u
wanted-around Rising faces x u = wanted-rises faces x u
wanted-around Every faces x u = wanted-neighbour faces x u
