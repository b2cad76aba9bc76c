-- What the fold test says of a pair: allowed, or why not (document 01, "A fold is allowed if"; document 02, wish 4).
use Rattle.std.specs.Prelude.{ℕ, List, [], ◌∷◌, Bool, not, ◌&&◌, ◌||◌, leb, eqb, length, get_or, drop, ⊤, Result, Ok, Err}
use Rattle.std.proofs.Math.Bool.{cond}
use Rattle.walk.specs.declared.Face.{Face}
use Rattle.walk.specs.declared.Pair.{Pair}
use Rattle.walk.specs.declared.Reason.{Reason}
use Rattle.walk.specs.declared.Reason.TheVariants.{NotLinked, Squashed, TurnedOver}
use Rattle.walk.specs.Faces.{holds, both, shared, common, Rules, Mesh, data_of, merged_of}

-- the faces that hold both number at least 1, and the common neighbours number the same
abbrev pub linked : ℕ → List Face → ℕ → ℕ → Bool
linked v faces keep remove = leb 1 (shared faces keep remove) && eqb (common v faces keep remove) (shared faces keep remove)

-- a face that holds just one of the two; no other face is asked
abbrev pub asked : ℕ → ℕ → Face → Bool
asked keep remove f = (holds keep f || holds remove f) && not (both keep remove f)

-- what is told of the face of a number, by whether it is asked, squashed and turned over: squashed comes before turned over
unfoldable pub harm : ℕ → (is_asked squashed turned : Bool) → Result ⊤ Reason
harm number is_asked squashed turned = cond is_asked (cond squashed (Err (Squashed number)) (cond turned (Err (TurnedOver number)) (Ok tt))) (Ok tt)

-- the first of two answers that isn't allowed
unfoldable pub or_else : Result ⊤ Reason → Result ⊤ Reason → Result ⊤ Reason
or_else (Ok _) later = later
or_else (Err reason) later = Err reason

-- of faces in order, with their numbers beside them: what a test says of the first that it doesn't allow
unfoldable pub first_harm : (ℕ → Face → Result ⊤ Reason) → List Face → List ℕ → Result ⊤ Reason
unfolding or_else
first_harm test [] numbers = Ok tt
first_harm test (f ∷ fs) numbers = or_else (test (get_or numbers 0 0) f) (first_harm test fs (drop 1 numbers))

module _ {D : Type 0} (rules : Rules D) where
  -- what a point carries after the fold, in a face that had keep or remove for it
  abbrev pub moved_of : Mesh D → Pair → ℕ → D
  moved_of m p x = cond (eqb x p.keep || eqb x p.remove) (merged_of rules m p) (data_of rules m x)

  -- a rule, asked of a face's three points before the fold and after it
  abbrev pub by_rule : (D → D → D → D → D → D → Bool) → Mesh D → Pair → Face → Bool
  by_rule rule m p f =
      rule
      (data_of rules m f.a) (data_of rules m f.b) (data_of rules m f.c)
      (moved_of m p f.a) (moved_of m p f.b) (moved_of m p f.c)

  -- what the fold does to the face of a number
  unfoldable pub face_test : Mesh D → Pair → ℕ → Face → Result ⊤ Reason
  unfolding harm
  face_test m p number f = harm number (asked p.keep p.remove f) (by_rule rules.squashed m p f) (by_rule rules.turned m p f)

  -- the fold test: whether the points are linked, and then the faces, lowest number first
  unfoldable pub fold_test : Mesh D → Pair → Result ⊤ Reason
  unfolding face_test first_harm
  fold_test m p =
      cond (linked (length m.points) m.faces p.keep p.remove)
      (first_harm (face_test m p) m.faces m.numbers)
      (Err NotLinked)
