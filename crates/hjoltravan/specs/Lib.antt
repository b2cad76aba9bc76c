-- The C interface's statement.
pub mod Calls
pub mod Orders
