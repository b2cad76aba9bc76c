-- What the function that writes a whole mesh asks.
use Rattle.std.specs.Prelude.{ℕ, ◌/◌, ◌≤◌, List, length, Float}
use Rattle.listing.specs.Texts.{mesh_room}

-- points and faces, three numbers to each, within document 01's limits, and room for their listing
pub record MeshAsked (points : List Float) (faces : List ℕ) (out : List ℕ) : Type 0 where
  pub points_most : length points / 3 ≤ 65536
  pub faces_most : length faces / 3 ≤ 131072
  pub room : mesh_room (length points / 3) (length faces / 3) ≤ length out
