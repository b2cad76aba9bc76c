-- Words of text.
use Rattle.std.specs.Prelude.{ℕ, List, [], ◌∷◌}
use Prim.Native.Char.{code}
use Prim.Native.String.{String, [] as end, ◌∷◌ as ◌then◌}

-- a word by its characters' codes, which are its bytes where it is ASCII
abbrev pub ascii : String → List ℕ
ascii end = []
ascii (c then rest) = code c ∷ ascii rest
