pub mod PlanTexts
pub mod ScriptLaws
pub mod CommandForms
