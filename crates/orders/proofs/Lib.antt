-- What holds of orders and their parts.
pub mod PartLaws
pub mod OthersLaws
pub mod FineLaws
mod BeforeLaws
pub mod FaultLaws
