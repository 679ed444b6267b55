pub mod Drives
pub mod Serve
pub mod Served
