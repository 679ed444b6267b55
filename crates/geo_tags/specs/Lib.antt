pub mod Tags
pub mod Tokens
pub mod Calls
