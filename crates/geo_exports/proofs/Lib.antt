pub mod Values
pub mod Names
pub mod Fitting
pub mod OnlyCommand
