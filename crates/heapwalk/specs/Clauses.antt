-- What the inner functions of the heap walk ask and leave.
pub mod Entering
pub mod Listing
pub mod Reading
pub mod Trying
