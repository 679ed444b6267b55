pub mod Streams
pub mod Handles
pub mod Points
pub mod Steps
pub mod Courses
pub mod Doings
