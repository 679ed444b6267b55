use Rattle.std.proofs.Common.{◌∷◌}
use Rattle.geo_disk.proofs.lending.returned_by.Given as goal

abbrev pub ghost-picked : goal.ghost-picked
ghost-picked a = a._and.now ∷ a._from.now.items
