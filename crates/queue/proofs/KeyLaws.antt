-- What two entries are compared by is the same where its parts are.
-- Assumes nothing.
use Prim.Native.Nat.{ℕ}
use mathlib.Core.Path.{◌≡◌}
use lib.Ieee.{Float}
use Rattle.openpairs.specs.declared.pairs.Ranked.{Ranked}

pub ranked-path : {at keep keep' remove remove' : ℕ} {cost cost' : Float} → cost ≡ cost' → keep ≡ keep' → remove ≡ remove' →
    ◌≡◌ {A = Ranked} (record { at = at; cost = cost; keep = keep; remove = remove }) (record { at = at; cost = cost'; keep = keep'; remove = remove' })
ranked-path {at = at} costs keeps removes t = record { at = at; cost = costs t; keep = keeps t; remove = removes t }
