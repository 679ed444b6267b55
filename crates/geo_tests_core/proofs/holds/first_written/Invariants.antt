use Rattle.geo_tests_core.proofs.holds.first_written.Given as goal

abbrev pub ghosts-written : goal.ghosts-written
ghosts-written a = record { name = a.blank.name; parts = a.blank.parts }
