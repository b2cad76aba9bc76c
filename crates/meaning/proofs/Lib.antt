-- What follows from the statement of a call, and the order of its numbers.
pub mod Determined
pub mod VerdictOrder
pub mod FaceVerdictLaws
pub mod MarginVerdictLaws
pub mod PartsLaws
