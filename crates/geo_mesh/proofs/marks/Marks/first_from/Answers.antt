use Rattle.std.proofs.Common.{◌∙◌}
use Rattle.geo_mesh.proofs.MarkLemmas.{first-marked}
use Rattle.geo_mesh.proofs.marks.Marks.first_from.Goals as goal

pub returns : goal.returns
returns c = rw (← c.self.view_is) (c.first_from.ensures
    ∙ first-marked c.args.number c.self.inside.family.children c.self.invariant.under)
