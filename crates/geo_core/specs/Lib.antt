pub mod Left
pub mod Mesh
pub mod Running
pub mod Moves
pub mod Twins
pub mod Goes
pub mod Logged
pub mod Sent
