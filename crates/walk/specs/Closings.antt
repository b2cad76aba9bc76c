-- Why pairs were closed, counted (document 02, wish 4).
use Rattle.std.specs.Prelude.{List, Bool, true, false}
use Rattle.lists.specs.Lists.{sum, count}
use Rattle.walk.specs.declared.Closings.{Closings}
use Rattle.walk.specs.declared.Reason.{Reason}
use Rattle.walk.specs.declared.Reason.TheVariants.{NotLinked, Squashed, TurnedOver}

-- the kinds of reasons
abbrev pub is_not_linked : Reason → Bool
is_not_linked NotLinked = true
is_not_linked (Squashed face) = false
is_not_linked (TurnedOver face) = false

abbrev pub is_squashed : Reason → Bool
is_squashed NotLinked = false
is_squashed (Squashed face) = true
is_squashed (TurnedOver face) = false

abbrev pub is_turned_over : Reason → Bool
is_turned_over NotLinked = false
is_turned_over (Squashed face) = false
is_turned_over (TurnedOver face) = true

-- none closed
abbrev pub none_closed : Closings
none_closed = record { unlinked = 0; squashed = 0; turned = 0 }

-- how many reasons of a list are of each kind
unfoldable pub closings_of : List Reason → Closings
unfolding sum
closings_of reasons =
    record { unlinked = count is_not_linked reasons; squashed = count is_squashed reasons; turned = count is_turned_over reasons }
