pub mod Fitting
pub mod Ending
