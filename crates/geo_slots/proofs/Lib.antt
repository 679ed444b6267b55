pub mod RowLemmas
pub mod BelowLemmas
pub mod PageLemmas
pub mod PlaceLemmas
pub mod KeyLemmas
pub mod TableLemmas
