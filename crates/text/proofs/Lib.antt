-- Laws of texts, with no code in sight.
pub mod LineLaws
pub mod DigitLaws
pub mod RoomLaws
