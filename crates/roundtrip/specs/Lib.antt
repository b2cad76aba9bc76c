-- What comes back of a mesh that is written as a file and read again.
pub mod Trips
