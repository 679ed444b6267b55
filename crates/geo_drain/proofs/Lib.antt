pub mod Taking
pub mod Going
pub mod Noting
pub mod Full
pub mod Lines
pub mod Waiting
pub mod HandedOn
pub mod Falling
