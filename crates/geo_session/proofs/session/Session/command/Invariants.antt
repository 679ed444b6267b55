use Rattle.geo_session.proofs.session.Session.command.Given as goal

abbrev pub ghosts-command : goal.ghosts-command
ghosts-command a = record { name = a.blank.name; parts = a.blank.parts }
