pub mod DiskLaws
pub mod DriveLaws
pub mod TakenLaws
pub mod Deliveries
pub mod SeatLaws
