pub mod ConcatMap
pub mod Kept
pub mod ConcatLaws
pub mod Growth
pub mod Record
