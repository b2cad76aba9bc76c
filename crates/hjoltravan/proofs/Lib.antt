-- What the calls through C share; what a call with many orders leaves; and that all statements are tight.
mod CallLaws
mod ServedLaws
mod RoomLaws
mod CoveredLaws
pub mod Isolated
pub mod Determined
