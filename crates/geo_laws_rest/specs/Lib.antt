pub mod MeasureLaws
pub mod LossLaws
pub mod CostLaws
pub mod RestLaws
pub mod CommandsLeft
