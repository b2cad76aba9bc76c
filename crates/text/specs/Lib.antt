-- Words and numbers as text.
pub mod Words
pub mod Digits
pub mod Lines
