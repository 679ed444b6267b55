pub mod Room
pub mod Places
pub mod PlaceLaws
