-- What one order leaves, and what holds of a call that isn't refused as a whole.
mod OrderLaws
pub mod FineLaws
pub mod ClearLaws
