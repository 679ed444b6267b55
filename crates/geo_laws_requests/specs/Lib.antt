pub mod Histories
pub mod Arrivals
pub mod Covering
pub mod Ledger
pub mod RequestLaws
pub mod DeliveredLaws
pub mod Ways
