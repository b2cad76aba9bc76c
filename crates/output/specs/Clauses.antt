-- What writing the output asks and leaves.
pub mod Written
pub mod Numbering
