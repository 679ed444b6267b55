pub mod Rows
pub mod BioTable
pub mod Targets
pub mod Split
pub mod Up
pub mod Gather
pub mod PieceLaws
