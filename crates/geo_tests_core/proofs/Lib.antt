pub mod Building
pub mod Tasting
