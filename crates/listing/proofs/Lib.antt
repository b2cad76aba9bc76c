-- Laws of the listing, with no code in sight.
pub mod TextLaws
pub mod Determined
