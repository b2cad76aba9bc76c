-- Small things on lists, and stretches of cells in them.
pub mod Lists
pub mod Frames
pub mod Puts
