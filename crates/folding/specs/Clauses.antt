-- What the steps of a fold, and the whole fold, leave.
pub mod Steps
pub mod Folds
