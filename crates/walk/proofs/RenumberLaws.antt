-- The points of faces by first use: a point keeps its number once it has one, none is numbered twice, and every point of the faces has a number.
-- Assumes nothing.
use Prim.Native.Nat.{ℕ, ◌+◌, ◌*◌, ◌≤◌}
use native.Mathlib.Omega.{arith}
use mathlib.Core.Path.{◌≡◌, refl, sym, ap, ◌∙◌}
use mathlib.Core.List.{List, [], ◌∷◌, ◌++◌, map, map-append, append-nil, append_assoc}
use mathlib.Core.Bool.{Bool, true, ◌&&◌}
use mathlib.Mathlib.Data.Bool.Basic.{and_elim_left, and_elim_right, and_intro, or_inl}
use lib.Dec.{ltb, eqb}
use lib.ListN.{length}
use Rattle.walk.specs.declared.Face.{Face}
use Rattle.lists.specs.Lists.{every, some}
use Rattle.walk.specs.Faces.{holds}
use Rattle.walk.specs.Output.{noted, used, place_in, renumbered}
use Rattle.lists.proofs.TestLaws.{both_true}
use Rattle.lists.proofs.EveryLaws.{some-append, every_some, map_same}
use Rattle.walk.proofs.FaceLaws.{at-corner}
use Rattle.walk.proofs.PlaceLaws.{has, Once, place-append, once-none, once-length, noted-cases, noted-has, noted-keeps, noted-every, length-noted, once-noted}

-- what holds of a list and is kept whenever a number is noted
pub used-keeps : (P : List ℕ → Type 0) → ((seen : List ℕ) (x : ℕ) → P seen → P (noted seen x)) →
    (seen : List ℕ) (fs : List Face) → P seen → P (used seen fs)
unfolding used
used-keeps P keep seen [] h = h
used-keeps P keep seen (f ∷ fs) h = used-keeps P keep (noted (noted (noted seen f.a) f.b) f.c) fs (keep _ f.c (keep _ f.b (keep _ f.a h)))

pub used-append : (seen : List ℕ) (fs gs : List Face) → used seen (fs ++ gs) ≡ used (used seen fs) gs
unfolding used
used-append seen [] gs = refl
used-append seen (f ∷ fs) gs = used-append (noted (noted (noted seen f.a) f.b) f.c) fs gs

-- it grows at its end only
pub used_grows : (seen : List ℕ) (fs : List Face) → (rest : List ℕ) × (used seen fs ≡ seen ++ rest)
used_grows seen fs = used-keeps (λ ys. (rest : List ℕ) × (ys ≡ seen ++ rest)) more seen fs ([], sym (append-nil seen))
  where
    more : (ys : List ℕ) (x : ℕ) → (rest : List ℕ) × (ys ≡ seen ++ rest) → (rest : List ℕ) × (noted ys x ≡ seen ++ rest)
    more ys x (rest, e) =
        noted-cases (λ zs. (rest : List ℕ) × (zs ≡ seen ++ rest)) ys x (λ _. (rest, e)) (λ _. (rest ++ (x ∷ []), rw (e, append_assoc)))

pub has-used : (seen : List ℕ) (fs : List Face) (x : ℕ) → has seen x ≡ true → has (used seen fs) x ≡ true
has-used seen fs x h =
    let (rest, e) = used_grows seen fs in
    rw (e, some-append (eqb x) seen rest) (or_inl (has seen x) (has rest x) h)

-- a number that is there keeps its place
pub place-used : (seen : List ℕ) (fs : List Face) (x : ℕ) → has seen x ≡ true → place_in (used seen fs) x ≡ place_in seen x
place-used seen fs x h =
    let (rest, e) = used_grows seen fs in
    rw e (place-append seen rest x h)

pub once-used : (seen : List ℕ) (fs : List Face) → Once seen → Once (used seen fs)
once-used seen fs once = used-keeps Once once-noted seen fs once

-- every number of a face passes a test
abbrev pub corners : (ℕ → Bool) → Face → Bool
corners test f = test f.a && test f.b && test f.c

-- every number of the faces is there
pub used-has : (seen : List ℕ) (fs : List Face) → every (corners (has (used seen fs))) fs ≡ true
unfolding every used
used-has seen [] = refl
used-has seen (f ∷ fs) =
    let one = noted seen f.a in
    let two = noted one f.b in
    let three = noted two f.c in
    and_intro
    (and_intro
    (and_intro
    (has-used three fs f.a (noted-keeps two f.c f.a (noted-keeps one f.b f.a (noted-has seen f.a))))
    (has-used three fs f.b (noted-keeps two f.c f.b (noted-has one f.b))))
    (has-used three fs f.c (noted-has two f.c)))
    (used-has three fs)

-- so a point that some face holds is there
pub used-held : (fs : List Face) (x : ℕ) → some (holds x) fs ≡ true → has (used [] fs) x ≡ true
used-held fs x one =
    let seen = used [] fs in
    let (f, all, held) = every_some (corners (has seen)) (holds x) fs (used-has [] fs) one in
    let ab = both_true (has seen f.a && has seen f.b) (has seen f.c) all in
    let at = both_true (has seen f.a) (has seen f.b) ab.0 in
    at-corner x f held
    (λ e. ap (has seen) e ∙ at.0)
    (λ e. ap (has seen) e ∙ at.1)
    (λ e. ap (has seen) e ∙ ab.1)

-- what the numbers of the faces pass, the noted ones pass
pub used-every : (test : ℕ → Bool) (seen : List ℕ) (fs : List Face) → every test seen ≡ true → every (corners test) fs ≡ true →
    every test (used seen fs) ≡ true
unfolding every used
used-every test seen [] old all = old
used-every test seen (f ∷ fs) old all =
    let at_a : test f.a ≡ true = search (and_elim_left, and_elim_right) in
    let at_b : test f.b ≡ true = search (and_elim_left, and_elim_right) in
    let at_c : test f.c ≡ true = search (and_elim_left, and_elim_right) in
    let one = noted seen f.a in
    let two = noted one f.b in
    used-every test (noted two f.c) fs
    (noted-every test two f.c (noted-every test one f.b (noted-every test seen f.a old at_a) at_b) at_c)
    (and_elim_right (corners test f) (every (corners test) fs) all)

-- ---- how many

pub length-used : (seen : List ℕ) (fs : List Face) → length (used seen fs) ≤ length seen + 3 * length fs
unfolding used
length-used seen [] = omega arith
length-used seen (f ∷ fs) =
    let one = noted seen f.a in
    let two = noted one f.b in
    omega (arith, length-noted seen f.a, length-noted one f.b, length-noted two f.c, length-used (noted two f.c) fs)

pub length-used-below : (v : ℕ) (fs : List Face) → every (corners (λ x. ltb x v)) fs ≡ true → length (used [] fs) ≤ v
unfolding every
length-used-below v fs all = once-length v (used [] fs) (once-used [] fs once-none) (used-every (λ x. ltb x v) [] fs refl all)

-- ---- the faces renumbered

-- a face with the places of its numbers
abbrev pub placed : List ℕ → Face → Face
placed seen f = record { a = place_in seen f.a; b = place_in seen f.b; c = place_in seen f.c }

-- more faces change nothing in those before
pub renumbered-append : (fs gs : List Face) → renumbered (fs ++ gs) ≡ renumbered fs ++ map (placed (used [] (fs ++ gs))) gs
unfolding renumbered
renumbered-append fs gs =
    map-append (placed more) fs gs
    ∙ ap (λ (hs : List Face). hs ++ map (placed more) gs) (map_same (placed more) (placed first) (corners (has first)) agree fs (used-has [] fs))
  where
    first : List ℕ
    first = used [] fs

    more : List ℕ
    more = used [] (fs ++ gs)

    keeps : (x : ℕ) → has first x ≡ true → place_in more x ≡ place_in first x
    keeps x h = rw (used-append [] fs gs) (place-used first gs x h)

    agree : (f : Face) → corners (has first) f ≡ true → placed more f ≡ placed first f
    agree f h =
        let at_a : has first f.a ≡ true = search (and_elim_left, and_elim_right) in
        let at_b : has first f.b ≡ true = search (and_elim_left, and_elim_right) in
        let at_c : has first f.c ≡ true = search (and_elim_left, and_elim_right) in
        λ i. record { a = keeps f.a at_a i; b = keeps f.b at_b i; c = keeps f.c at_c i }
