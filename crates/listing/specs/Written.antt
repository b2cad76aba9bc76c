-- What writing a text leaves in the lent buffer.
use Rattle.std.specs.Prelude.{ℕ, ◌≡◌, List, Bool, cond, length, Option, Some, None}
use Rattle.lists.specs.Lists.{overlaid}

-- What an entry leaves: where the text fits, its bytes at the beginning, how many they are, and the rest as it came. Else nothing is written.
pub record Prints (fits : Bool) (text old new : List ℕ) (r : Option ℕ) : Type 0 where
  pub answered : r ≡ cond fits (Some (length text)) None
  pub written : new ≡ cond fits (overlaid text old) old
