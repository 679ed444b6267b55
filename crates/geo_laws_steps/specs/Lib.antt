pub mod FreeingLaws
pub mod CommandLaws
pub mod Heirs
pub mod HeirLaws
pub mod WayLaws
