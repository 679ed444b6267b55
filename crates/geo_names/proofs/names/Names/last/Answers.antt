use Rattle.std.proofs.Common.{sym, ◌∙◌}
use Rattle.geo_names.proofs.Texts.{last-found, last-missing}
use Rattle.geo_names.proofs.names.Names.last.Goals as goal

-- the numbers of a name are the children of its id; without an id there are none
pub returns-in-Some : goal.returns-in-Some
returns-in-Some c =
    rw (← c.self.view_is)
    (c.last.ensures
    ∙ last-found c.self.inside.inside c.self.invariant c.args.name.now c.in-Some.id.now
    (sym c.in-Some.ensures.value))

pub returns-in-None : goal.returns-in-None
returns-in-None c =
    rw (← c.self.view_is)
    (sym (last-missing c.self.inside.inside c.self.invariant c.args.name.now (sym c.in-None.ensures.value)))
