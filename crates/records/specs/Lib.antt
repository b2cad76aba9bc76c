-- Records, and the numbers in their bytes.
pub mod Words
pub mod Records
