pub mod PlanTests
pub mod WordForms
pub mod CommandWords
pub mod LinesRead
pub mod PlansRead
pub mod PlansFit
pub mod Deciders
pub mod CommandForms
