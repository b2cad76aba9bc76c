-- How the faces and points are laid out in the lent memory.
pub mod Clauses
