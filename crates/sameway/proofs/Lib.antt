-- What follows from the definitions of specs/, and is no code.
pub mod RepeatLaws
pub mod TurnLaws
pub mod WayLaws
pub mod SameWayLaws
pub mod ThirdLaws
pub mod OneWayLaws
pub mod OrderLaws
pub mod EdgeLaws
pub mod LookLaws
pub mod LowestLaws
