-- The output: live faces in face order, points numbered by first use (document 01, "Output").
use Rattle.std.specs.Prelude.{ℕ, suc, List, [], ◌∷◌, ◌++◌, map, cond, eqb}
use Rattle.walk.specs.declared.Face.{Face}
use Rattle.lists.specs.Lists.{some}

-- a number after the others, where it isn't among them yet
abbrev pub noted : List ℕ → ℕ → List ℕ
noted seen x = cond (some (eqb x) seen) seen (seen ++ (x ∷ []))

-- the points of a list of faces by first use, after those seen before
unfoldable pub used : List ℕ → List Face → List ℕ
unfolding some
used seen [] = seen
used seen (f ∷ fs) = used (noted (noted (noted seen f.a) f.b) f.c) fs

-- the place of a number in a list that has it
unfoldable pub place_in : List ℕ → ℕ → ℕ
place_in [] x = 0
place_in (y ∷ ys) x = cond (eqb x y) 0 (suc (place_in ys x))

-- the faces with each point's new number
unfoldable pub renumbered : List Face → List Face
unfolding used place_in
renumbered faces =
    let seen = used [] faces in
    map (λ f. record { a = place_in seen f.a; b = place_in seen f.b; c = place_in seen f.c }) faces

-- faces as a list of point numbers, three to a face
unfoldable pub numbers_of : List Face → List ℕ
numbers_of [] = []
numbers_of (f ∷ fs) = f.a ∷ f.b ∷ f.c ∷ numbers_of fs
