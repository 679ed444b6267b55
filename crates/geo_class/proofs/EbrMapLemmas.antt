-- The maps of an EBR geom are the model's.
use Rattle.std.proofs.Common.{◌*◌, [], ◌∷◌, refl, ap}
use Rattle.geo_model.specs.Place.{window, cut}
use Rattle.geo_class.specs.ebr.MapLaws.{MapsAreTheModels}

pub maps_are_the_models : MapsAreTheModels
maps_are_the_models below parts x part found sized = record {
  places = λ o. rw found refl;
  cuts = λ o len. rw found (ap (λ size. cut o len (window (part.first * 512) size ∷ [])) sized);
}
