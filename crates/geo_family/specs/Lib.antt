pub mod Family
pub mod Nearest
pub mod Links
