use Rattle.std.specs.Prelude.{◌==◌, ◌&&◌}
use Rattle.std.proofs.Common.{◌∙◌}
use Rattle.geo_model.specs.Words.{same_name}
use Rattle.geo_handles.specs.Keys.{key_named, number_of_key}
use Rattle.geo_handles.proofs.InsideLemmas.{found-number, found-handle, named-all, named-there}
use Rattle.geo_handles.proofs.handles.Handles.by_name.Goals as goal

-- the map finds just the number whose handle has the actor and the name, so no other passes
pub returns-clause-number : goal.returns-clause-number
returns-clause-number c =
    rw (← c.self.view_is)
    (c.number_named.ensures
    ∙ found-number c.self.inside.inside.table.rows
    (λ h. (h.actor == c.args.actor) && same_name h.name c.args.name.now)
    (number_of_key c.self.inside.inside.names (key_named c.args.actor c.args.name.now))
    (named-all c.self.inside.inside c.self.invariant c.args.actor c.args.name.now)
    (named-there c.self.inside.inside c.self.invariant c.args.actor c.args.name.now))

-- the number that is found has a handle, which is the one of the actor and the name
pub returns-clause-handle : goal.returns-clause-handle
returns-clause-handle c =
    rw (← c.self.view_is, c.number_named.ensures)
    (found-handle c.self.inside.inside.table.rows
    (λ h. (h.actor == c.args.actor) && same_name h.name c.args.name.now)
    (number_of_key c.self.inside.inside.names (key_named c.args.actor c.args.name.now))
    (named-all c.self.inside.inside c.self.invariant c.args.actor c.args.name.now))
