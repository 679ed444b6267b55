pub mod Opened
pub mod MapSteps
pub mod Levels
pub mod SectorOffsets
pub mod JoinedCovers
