use Rattle.std.proofs.Common.{[]}
use Rattle.geo_disk.proofs.notes.Notes.none.Given as goal

abbrev pub ghost-picked : goal.ghost-picked
ghost-picked g a = []
