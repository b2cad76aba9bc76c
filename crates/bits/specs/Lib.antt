-- What the crate `bits` means, by subject. Document 01 words it; IEEE 754-2019 decides.
pub mod Root
pub mod Table
pub mod Narrow
pub mod Order
pub mod Cut
pub mod Examples
pub mod Clauses
