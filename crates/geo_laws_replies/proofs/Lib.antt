pub mod AnsweringBios
pub mod AnsweringCommands
pub mod AnsweringSteps
pub mod PlanLines
pub mod AllAnswered
