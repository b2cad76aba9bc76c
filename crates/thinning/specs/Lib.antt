-- What the stages of a call ask and leave.
pub mod Clauses
pub mod Made
pub mod Told
