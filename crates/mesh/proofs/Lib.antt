-- What follows from the definitions of specs/, and is no code.
pub mod ChainLaws
pub mod FaceCorners
pub mod TidyLaws
pub mod AroundLaws
pub mod WalkLaws
pub mod JoinLaws
pub mod LayLaws
pub mod GatheredLaws
pub mod QuadricLaws
pub mod StartLaws
