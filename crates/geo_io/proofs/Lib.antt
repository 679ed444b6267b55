pub mod Refusals
pub mod SinkLemmas
pub mod SourceLemmas
