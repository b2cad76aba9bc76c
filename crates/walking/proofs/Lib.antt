-- Laws of laying a mesh out and walking it, leaves first.
pub mod FitLaws
pub mod WithinLaws
pub mod LaidLaws
pub mod WalkedLaws
pub mod FoldListLaws
