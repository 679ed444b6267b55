pub mod OpeningLaws
pub mod LessLaws
pub mod EffectLaws
pub mod EventLaws
pub mod WashLaws
