mod PlaceLemmas
mod MeshLemmas
mod RunTexts
mod TallyLemmas
mod TextLemmas
