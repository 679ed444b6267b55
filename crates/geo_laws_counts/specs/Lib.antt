pub mod CountWords
pub mod CountLaws
pub mod ChangeLaws
pub mod LimitLaws
pub mod DemandLaws
pub mod AllowedLaws
pub mod WalkWords
