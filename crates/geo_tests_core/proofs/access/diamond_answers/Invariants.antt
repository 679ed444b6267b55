use Rattle.geo_tests_core.proofs.access.diamond_answers.Given as goal

abbrev pub ghosts-over_a_diamond : goal.ghosts-over_a_diamond
ghosts-over_a_diamond a = record { name = a.blank.name; parts = a.blank.parts }
