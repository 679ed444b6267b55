mod LastLemmas
pub mod Replies
