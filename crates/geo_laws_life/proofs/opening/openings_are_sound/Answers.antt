use Rattle.geo_laws_life.proofs.Opened.{opening-sound, opening-steady, opening-fitting}
use Rattle.geo_laws_life.proofs.opening.openings_are_sound.Goals as goal

pub returns : goal.returns
returns c = record { sound = opening-sound; steady = opening-steady; fitting = opening-fitting }
