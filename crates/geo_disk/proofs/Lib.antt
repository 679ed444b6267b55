pub mod CountLemmas
pub mod ImageLemmas
pub mod NameLemmas
pub mod SectorLemmas
