-- Laws of the memory, leaves first.
pub mod FrameLaws
pub mod PointLaws
pub mod EntryLaws
pub mod MeshLaws
