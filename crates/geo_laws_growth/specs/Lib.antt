pub mod JoinLaws
pub mod GrowthLaws
