-- What opening, closing and finding pairs ask and leave.
pub mod Ranks
pub mod Changes
pub mod Edges
pub mod Waiting
