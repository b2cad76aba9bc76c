-- What a function that stores bytes one after another leaves.
use Rattle.std.specs.Prelude.{ℕ, ◌+◌, ◌≤◌, ◌≡◌, List, length}
use Rattle.std.proofs.lemmas.List.Edits.{sets}

-- A run of bytes (a text, a part of a file), of at most so many, stored from one place on; the answer is the place after it.
pub record Put (most : ℕ) (run : List ℕ) (at : ℕ) (old new : List ℕ) (r : ℕ) : Type 0 where
  pub cells : new ≡ sets old at run
  pub past : r ≡ at + length run
  pub short : length run ≤ most
  pub same_room : length new ≡ length old
