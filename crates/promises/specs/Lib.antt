-- Words that the promises are said in.
pub mod Steps
pub mod Written
pub mod Fair
pub mod Reasons
pub mod Table
pub mod Finite
pub mod Errors
