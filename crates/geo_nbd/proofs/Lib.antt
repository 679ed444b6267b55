pub mod Appends
pub mod Finds
