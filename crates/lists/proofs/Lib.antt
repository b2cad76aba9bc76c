-- What holds of lists, leaves first.
pub mod TestLaws
pub mod CondLaws
pub mod SumLaws
pub mod EveryLaws
pub mod MemberLaws
pub mod FirstLaws
pub mod BelowLaws
pub mod BagLaws
pub mod PartLaws
pub mod DropLaws
pub mod FrameLaws
pub mod WrittenLaws
pub mod StoredLaws
pub mod OverlayLaws
pub mod PutLaws
