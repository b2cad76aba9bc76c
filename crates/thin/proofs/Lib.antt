-- Laws of what the program hands to std as text.
pub mod TextLaws
