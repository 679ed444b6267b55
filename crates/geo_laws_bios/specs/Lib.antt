pub mod BioFrames
pub mod BioSteps
pub mod PieceLaws
pub mod StartLaws
pub mod UpLaws
pub mod ServingLaws
pub mod BioStepLaws
