-- Laws of the queue, leaves first.
pub mod KeyLaws
pub mod HeapLaws
pub mod HoleLaws
pub mod SettleLaws
pub mod PresentLaws
pub mod MovedLaws
pub mod RequeuedLaws
pub mod EmptyLaws
pub mod PopLaws
pub mod TakeLaws
pub mod ThrowLaws
pub mod PushLaws
