-- `placement::place::tested` meets its contract: the closure's test is the definition's, at a solved point. Assumes nothing.
use Rattle.std.proofs.Common.{◌≡◌, Bool, Option, Some, None, MatchOption, Float, rules}
use Rattle.std.specs.Bool.{then_some}
use Rattle.geometry.specs.declared.Point.{Point}
use Rattle.placement.specs.Places.{stands, tested}
use Rattle.placement.proofs.place.tested.Goals as goal

-- what a filter keeps of a solved point, where its test answers as the definition does
filter-keeps : (Gives : Point → Bool → Type 0) (bound length : Float) (keep : Point) →
    ((p : Point) (b : Bool) → Gives p b → b ≡ stands bound length keep p) →
    (solved kept : Option Point) → MatchOption solved (kept ≡ None) (λ p. (b : Bool) × Gives p b × (kept ≡ then_some b p)) → kept ≡ tested bound length keep solved
unfolding tested
filter-keeps Gives bound length keep h None kept is = is
filter-keeps Gives bound length keep h (Some p) kept (b, gives, is) = rw (← h p b gives) is

pub returns : goal.returns
returns c = filter-keeps _ _ _ _ (λ p b gives. search rules) _ _ c.filter.ensures
