pub mod Fields
pub mod Messages
pub mod Laws
pub mod Handshake
pub mod Worked
