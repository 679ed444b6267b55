pub mod Nothing
pub mod Reading
pub mod Running
pub mod Halting
pub mod Talking
pub mod Turning
pub mod Sessions
