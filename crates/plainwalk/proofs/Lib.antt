-- Laws of the walk in memory, leaves first.
pub mod MemoryLaws
pub mod NoteLaws
pub mod LentLaws
pub mod CountLaws
pub mod AnswerLaws
pub mod FoldedLaws
mod TriedLaws
pub mod WalkLaws
pub mod Theorems
