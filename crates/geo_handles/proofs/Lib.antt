pub mod FinderLemmas
pub mod RowLemmas
pub mod NumberLemmas
pub mod InsideLemmas
pub mod HandleLawLemmas
