use Rattle.geo_tests_core.proofs.access.thirty_below.Given as goal

abbrev pub ghosts-below_thirty : goal.ghosts-below_thirty
ghosts-below_thirty a = record { name = a.blank.name; parts = a.blank.parts }
