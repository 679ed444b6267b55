pub mod WordsLeft
pub mod Reads
pub mod Tables
pub mod Draft
pub mod Line
