-- What the crate `probes` means: operations of `geometry` and `placement`, on bit patterns.
pub mod Patterns
