use Rattle.std.proofs.Common.{[], ◌∷◌, ◌++◌}
use Rattle.geo_disk.proofs.notes.Notes.and.Given as goal

abbrev pub ghost-picked : goal.ghost-picked
ghost-picked g a = a._from.now.items ++ a._and.now ∷ []
