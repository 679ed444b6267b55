use Rattle.std.proofs.Common.{sym, ◌∙◌}
use Rattle.geo_names.proofs.Texts.{first-found, first-missing}
use Rattle.geo_names.proofs.names.Names.first_from.Goals as goal

-- the numbers of a name are the children of its id, since no two names share one
pub returns-in-Some : goal.returns-in-Some
returns-in-Some c =
    rw (← c.self.view_is)
    (c.first_from.ensures
    ∙ first-found c.self.inside.inside c.self.invariant c.args.name.now c.in-Some.id.now c.args.from
    (sym c.in-Some.ensures.value))

-- each number stands under the id of its name, so a name without an id has no number
pub returns-in-None : goal.returns-in-None
returns-in-None c =
    rw (← c.self.view_is)
    (sym (first-missing c.self.inside.inside c.self.invariant c.args.name.now (sym c.in-None.ensures.value)
    c.args.from))
