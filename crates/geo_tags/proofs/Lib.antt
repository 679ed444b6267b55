pub mod OwnLines
pub mod Outcomes
pub mod Enabled
pub mod Raised
pub mod Waits
pub mod Submitted
pub mod Handed
