-- What the crate `geometry` means, by subject. Document 01, "Arithmetic, bit for bit", words it.
-- A float is a value of `lib.Ieee`, and an f32 is the same value as an f64: widening is exact, so it does not show here.
pub mod Constants
pub mod Points
pub mod Planes
pub mod Quadrics
