pub mod Numbers
pub mod Shorts
pub mod Tables
pub mod Forms
pub mod Written
pub mod Making
pub mod Replays
