pub mod Logged
pub mod Pass
pub mod PassList
pub mod Tally
pub mod Turns
pub mod View
pub mod Yard
pub mod Whole
