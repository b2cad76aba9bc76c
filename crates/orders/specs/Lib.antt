-- Orders of a call with many, and which calls are refused as a whole.
pub mod Parts
pub mod Orders
pub mod Refused
pub mod Examples
