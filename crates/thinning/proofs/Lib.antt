-- Laws that lead from what stands in memory to document 01's outcome.
pub mod FrameLaws
pub mod MemoryLaws
pub mod SizeLaws
pub mod OutcomeLaws
pub mod AdmittedLaws
pub mod VerdictLaws
