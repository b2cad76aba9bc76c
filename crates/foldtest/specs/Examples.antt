-- Three small meshes, and what the test of numbers says of the points 0 and 1.
use Rattle.std.specs.Prelude.{◌≡◌, refl, List, [], ◌∷◌, true, false}
use Rattle.walk.specs.declared.Face.{Face}
use Rattle.lists.specs.Lists.{sum, below}
use Rattle.walk.specs.Faces.{shared, common}
use Rattle.walk.specs.FoldTest.{linked}

-- two triangles that meet at the edge 0 1
abbrev pub glued : List Face
glued = record { a = 0; b = 1; c = 2 } ∷ record { a = 1; b = 0; c = 3 } ∷ []

-- with a third way from 0 to 1, past the point 4, that is no face with both
abbrev pub tented : List Face
tented = record { a = 0; b = 2; c = 4 } ∷ record { a = 1; b = 4; c = 2 } ∷ glued

-- two triangles that do not meet
abbrev pub distant : List Face
distant = record { a = 0; b = 2; c = 3 } ∷ record { a = 1; b = 4; c = 5 } ∷ []

pub glued-linked : linked 4 glued 0 1 ≡ true
unfolding sum below
glued-linked = refl

pub tented-shared : shared tented 0 1 ≡ 2
unfolding sum
tented-shared = refl

pub tented-common : common 5 tented 0 1 ≡ 3
unfolding sum below
tented-common = refl

pub tented-not-linked : linked 5 tented 0 1 ≡ false
unfolding sum below
tented-not-linked = refl

-- both numbers are 0, and still the pair is not linked
pub distant-not-linked : linked 6 distant 0 1 ≡ false
unfolding sum below
distant-not-linked = refl
