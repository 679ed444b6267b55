pub mod TableLemmas
pub mod SplitLemmas
pub mod FamilyLemmas
pub mod UpLemmas
pub mod PieceLemmas
