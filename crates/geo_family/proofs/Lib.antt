pub mod NearestLemmas
pub mod OrderLemmas
pub mod LinkLemmas
pub mod WalkLemmas
pub mod FamilyLemmas
pub mod ViewLemmas
pub mod LastLemmas
