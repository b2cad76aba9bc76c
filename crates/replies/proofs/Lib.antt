-- What follows from the definitions of specs/ and of the libraries', and is no code.
pub mod OutcomeLaws
pub mod ReplyLaws
pub mod PrefixLaws
pub mod UnitLaws
pub mod FitLaws
pub mod AgainLaws
