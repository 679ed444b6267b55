use Rattle.geo_session.proofs.session.Session.step.Given as goal

abbrev pub ghosts-make : goal.ghosts-make
ghosts-make a = record { name = a.blank.name; parts = a.blank.parts }
