-- What an answer's number means, in plain words.
pub mod Meanings
pub mod Means
pub mod Examples
