-- Where memory ran out all is forgotten.
use Rattle.geo_elev.proofs.Histories.{forgotten_then}
use Rattle.geo_elev.proofs.sweep.HeadsOrder.note.Goals as goal

pub returns-clause-forgot : goal.returns-clause-forgot
returns-clause-forgot c =
    forgotten_then c.note.result c.args.mesh.now c.args.self.now c.note.new.self c.requires.earlier
    c.note.ensures.forgot
