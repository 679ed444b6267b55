mod Closing
mod Keeps
pub mod Prefixes
mod Sounds
mod TallyLemmas
pub mod EachOwn
