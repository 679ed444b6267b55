use Rattle.geo_disk.proofs.notes.Notes.of.Given as goal

abbrev pub ghost-picked : goal.ghost-picked
ghost-picked g a = a._from.now.now
