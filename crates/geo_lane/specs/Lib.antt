pub mod Delivery
pub mod LanePass
pub mod Ticket
pub mod View
