-- What follows from the definitions of specs/, and is no code.
pub mod SlotLaws
pub mod LiveLaws
pub mod MarkLaws
pub mod TurnLaws
pub mod AroundLaws
pub mod BorderLaws
pub mod KindLaws
pub mod CommonLaws
pub mod FrameLaws
pub mod WantedLaws
pub mod TakeLaws
pub mod NearLaws
pub mod ListedLaws
pub mod RingLaws
