pub mod Counting
pub mod OwedBios
pub mod OwedCommands
pub mod OwedSteps
pub mod Room
pub mod Full
