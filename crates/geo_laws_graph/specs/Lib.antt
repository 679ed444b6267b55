pub mod LookupLaws
pub mod Edges
pub mod RankLaws
pub mod Attach
pub mod RankChangeLaws
