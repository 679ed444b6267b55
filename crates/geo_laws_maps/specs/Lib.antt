pub mod Ways
pub mod MapLaws
pub mod Covers
