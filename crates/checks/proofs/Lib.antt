-- Laws of the checks: steps for the proofs of the code, and what follows from a verdict.
pub mod FloatLaws
pub mod SearchLaws
pub mod TestLaws
pub mod OrderLaws
pub mod FaceLaws
pub mod MarginLaws
pub mod FaceVerdictLaws
pub mod VerdictLaws
pub mod RefusalLaws
