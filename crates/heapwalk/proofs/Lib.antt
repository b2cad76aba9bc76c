-- Laws of the heap walk in memory, leaves first.
pub mod QueueFrames
pub mod EntryForLaws
pub mod EnterLaws
pub mod ReadLaws
pub mod AroundLaws
pub mod StartLaws
pub mod MemoryLaws
pub mod StampLaws
pub mod FoldedLaws
pub mod AnswerLaws
pub mod TriedLaws
pub mod TakenLaws
pub mod HoldLaws
pub mod ChainLaws
pub mod RoomLaws
pub mod Theorems
