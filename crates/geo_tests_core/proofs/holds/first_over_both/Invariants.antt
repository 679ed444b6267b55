use Rattle.geo_tests_core.proofs.holds.first_over_both.Given as goal

abbrev pub ghosts-over_both : goal.ghosts-over_both
ghosts-over_both a = record { name = a.blank.name; parts = a.blank.parts }
