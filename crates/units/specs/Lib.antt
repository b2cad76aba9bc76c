-- What a unit stands for.
pub mod Units
