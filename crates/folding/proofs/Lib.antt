pub mod TurnLaws
pub mod KillLaws
pub mod CornerLaws
pub mod RelistLaws
pub mod FoldedLaws
pub mod MovedLaws
pub mod TriedLaws
