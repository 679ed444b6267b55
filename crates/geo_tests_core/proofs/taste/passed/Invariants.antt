use Rattle.geo_tests_core.proofs.taste.passed.Given as goal

abbrev pub ghosts-over_one : goal.ghosts-over_one
ghosts-over_one a = record { name = a.blank.name; parts = a.blank.parts }
