pub mod OwedLaws
pub mod FullLaws
