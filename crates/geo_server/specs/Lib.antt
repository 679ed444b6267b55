pub mod Judging
pub mod Serving
pub mod Whole
pub mod Service
