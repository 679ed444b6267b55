use Rattle.geo_tests_core.proofs.taste.pulled.Given as goal

abbrev pub ghosts-disk_cut_short : goal.ghosts-disk_cut_short
ghosts-disk_cut_short a = record { name = a.blank.name; parts = a.blank.parts }
