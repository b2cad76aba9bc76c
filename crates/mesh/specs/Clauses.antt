-- What laying a mesh out and gathering faces ask and leave.
pub mod Chains
pub mod Around
pub mod Laying
pub mod Laid
pub mod Quadrics
