pub mod Fronts
pub mod Candidates
pub mod Kept
pub mod Following
pub mod Histories
pub mod Gathered
pub mod Nexts
