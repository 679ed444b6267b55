pub mod Benches
pub mod Standing
