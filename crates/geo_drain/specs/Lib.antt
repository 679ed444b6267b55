pub mod Meshes
pub mod Drain
pub mod Turns
pub mod Earliest
pub mod Noted
pub mod Running
