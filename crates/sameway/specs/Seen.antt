-- From which point an edge to each point was seen last, while it is looked at which way faces run: in V cells of u32, those of `around` in the table of memory's specs/Layout.antt.
use Rattle.std.specs.Prelude.{ℕ, ◌+◌, ◌*◌, List, get_or}

-- where they begin
abbrev pub seen_from : ℕ → ℕ → ℕ
seen_from v f = 21 * f + 4 * v

-- 1 more than the point from which an edge to x was seen last
abbrev pub seen : ℕ → ℕ → List ℕ → ℕ → ℕ
seen v f w x = get_or w (seen_from v f + x) 0
