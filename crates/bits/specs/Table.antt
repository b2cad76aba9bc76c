-- The rule of the table that a root starts from (document 02, wish 6).
use Rattle.std.specs.Prelude.{ℕ, ◌+◌, ◌*◌, ◌<◌, ◌≤◌}

-- e is the entry of k: the whole number with e * e at most 256 k, and (e + 1) * (e + 1) above it
pub record Entry (k e : ℕ) : Type 0 where
  pub at_most : e * e ≤ 256 * k
  pub above : 256 * k < (e + 1) * (e + 1)
