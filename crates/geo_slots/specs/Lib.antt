pub mod Slots
pub mod Pages
pub mod Index
pub mod Lending
