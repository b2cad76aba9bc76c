-- What each case of a choice stands for.
use Rattle.std.specs.Prelude.{ℕ, Bool, true, false, cond, eqb, Float, Option, Some, None}
use Rattle.std.specs.Bool.{then_some}
use Rattle.std.specs.Float.Ieee.{lt}
use Rattle.placement.specs.declared.Kind.{Kind}
use Rattle.placement.specs.declared.Kind.TheVariants.{Free, Border, Margin}

-- a kind's number in memory: free 0, border 1, margin 2
abbrev pub kind_number : Kind → ℕ
kind_number Free = 0
kind_number Border = 1
kind_number Margin = 2

-- the kind of a number: 0 is free, 1 border, any other margin
abbrev pub kind_of : ℕ → Kind
kind_of n = cond (eqb n 0) Free (cond (eqb n 1) Border Margin)

-- margin points are fixed exactly like border points
abbrev pub fixed : Kind → Bool
fixed Free = false
fixed Border = true
fixed Margin = true

-- a limit only where there is one: what is given for it is not looked at otherwise
abbrev pub limit_of : Bool → Float → Option Float
limit_of limited limit = then_some limited limit

-- a length is above the limit
abbrev pub above_limit : Float → Option Float → Bool
above_limit length None = false
above_limit length (Some most) = lt most length
