pub mod Keys
pub mod Handles
pub mod Inside
pub mod HandleLaws
