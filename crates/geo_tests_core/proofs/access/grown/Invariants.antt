use Rattle.geo_tests_core.proofs.access.grown.Given as goal

abbrev pub ghosts-growing : goal.ghosts-growing
ghosts-growing a = record { name = a.blank.name; parts = a.blank.parts }
