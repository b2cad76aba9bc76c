-- What stands where in the lent memory, and what it says of the mesh.
pub mod Layout
pub mod Memory
pub mod Points
pub mod Entries
