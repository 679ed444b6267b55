pub mod ElevatorFacts
pub mod Sweeping
pub mod SweepRest
pub mod SentBios
pub mod WaitingFacts
pub mod Places
