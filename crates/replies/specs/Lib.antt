-- What any bytes are answered with.
pub mod Replies
pub mod Clauses
pub mod Examples
