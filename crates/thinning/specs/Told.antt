-- A call's options and its answer as plain numbers.
use Rattle.std.specs.Prelude.{ℕ, List, [], ◌∷◌, Bool, Float}
use Rattle.placement.specs.Choices.{limit_of}
use Rattle.meaning.specs.declared.Answer.{Answer}
use Rattle.meaning.specs.declared.Options.{Options}

-- the options of a call
abbrev pub options_of : (unit : ℕ) (ratio : Float) (preserve limited : Bool) (limit : Float) → Options
options_of unit ratio preserve limited limit = record { unit = unit; ratio = ratio; preserve = preserve; limit = limit_of limited limit }

-- number, place, points out, faces out, folds made
abbrev pub five_of : Answer → List ℕ
five_of r = r.number ∷ r.place ∷ r.points ∷ r.faces ∷ r.folds ∷ []

-- pairs closed: not linked, squashed, turned over
abbrev pub by_reason : Answer → List ℕ
by_reason r = r.closed.unlinked ∷ r.closed.squashed ∷ r.closed.turned ∷ []
