-- What is known of an input once its verdict is known.
pub mod Facts
