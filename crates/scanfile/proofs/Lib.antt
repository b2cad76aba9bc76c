-- What follows from the definitions of specs/, and is no code.
pub mod FaultLaws
pub mod ScanLaws
pub mod ContentLaws
pub mod GoodLaws
pub mod PrefixLaws
pub mod FileLaws
pub mod Determined
