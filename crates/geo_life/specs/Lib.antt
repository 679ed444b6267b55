pub mod Life
pub mod LifeLaws
pub mod Wash
