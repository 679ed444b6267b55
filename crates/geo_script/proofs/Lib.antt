pub mod WordsLemmas
pub mod NumberLemmas
pub mod TextLemmas
pub mod RunsAgree
pub mod FormLemmas
pub mod ReaderLaws
pub mod PlanLaw
