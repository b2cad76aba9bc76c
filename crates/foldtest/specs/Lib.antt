-- What the fold test asks, over the live faces, the points and the place alone.
pub mod Clauses
pub mod Examples
