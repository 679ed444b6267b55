use Rattle.geo_tests_core.proofs.access.thirty_above.Given as goal

abbrev pub ghosts-above_thirty : goal.ghosts-above_thirty
ghosts-above_thirty a = record { name = a.blank.name; parts = a.blank.parts }
