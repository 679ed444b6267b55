use Rattle.geo_tests_core.proofs.taste.crowded.Given as goal

abbrev pub ghosts-over_crowd : goal.ghosts-over_crowd
ghosts-over_crowd a = record { name = a.blank.name; parts = a.blank.parts }
