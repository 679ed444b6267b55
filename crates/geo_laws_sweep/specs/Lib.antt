pub mod SweepLaws
pub mod Elevator
