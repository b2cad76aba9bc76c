-- What the functions of the fold test ask and answer.
pub mod Fair
pub mod Lowest
pub mod Allowed
