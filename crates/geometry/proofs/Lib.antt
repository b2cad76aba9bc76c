pub mod Finite
pub mod Squares
