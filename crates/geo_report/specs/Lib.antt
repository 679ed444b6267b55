pub mod Places
pub mod MeshTexts
pub mod Tallies
pub mod Texts
