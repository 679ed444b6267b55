pub mod ChainView
pub mod Links
pub mod MapLaws
