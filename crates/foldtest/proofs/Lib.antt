-- What follows from the definitions, and is no code.
pub mod SquareLaws
pub mod FairLaws
pub mod LowestLaws
pub mod HarmLaws
pub mod LinkLaws
pub mod AllowedLaws
