-- What the crate `placement` means, by subject. Document 01 words it.
pub mod Choices
pub mod Errors
pub mod Inverses
pub mod Pairs
pub mod Places
