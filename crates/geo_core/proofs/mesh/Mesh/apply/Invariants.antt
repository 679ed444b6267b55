use Rattle.geo_core.proofs.mesh.Mesh.apply.Given as goal

abbrev pub ghosts-apply : goal.ghosts-apply
ghosts-apply a = record { name = a.blank.name; parts = a.blank.parts }
