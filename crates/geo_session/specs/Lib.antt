pub mod Growth
pub mod Generation
pub mod Session
pub mod Live
pub mod Moves
pub mod Going
