use Rattle.std.proofs.Common.{subst}
use Rattle.geo_moves.specs.Handles.{IsOpenRefusal}
use Rattle.geo_moves.proofs.Admitting.{open-refused, open-done}
use Rattle.geo_moves.proofs.opens.open.Goals as goal

-- for both outcomes: what was decided is what the model decides
pub returns-in-Some-clause-made : goal.returns-in-Some-clause-made
returns-in-Some-clause-made g c =
    λ log actors.
    open-refused c.args.state.now c.refuse.new.state c.args.line c.args.actor c.args.name.now c.args.prov.now
    c.args.grant c.refused.result actors log c.in-Some.errno
    (subst (IsOpenRefusal c.args.state.now c.args.actor c.args.name.now c.args.prov.now c.args.grant) c.in-Some.is
    c.requires.decided) (c.in_ok-refuse.ensures.made actors log) c.refused.ensures

pub admit-requires-clause-decided : goal.admit-requires-clause-decided
admit-requires-clause-decided g c =
    subst (IsOpenRefusal c.args.state.now c.args.actor c.args.name.now c.args.prov.now c.args.grant) c.in_default.is
    c.requires.decided

pub returns-clause-made : goal.returns-clause-made
returns-clause-made g c =
    λ log actors.
    open-done c.args.state.now c.admit.new.state c.args.line c.args.actor c.args.name.now c.args.prov.now
    c.args.grant c.done.result actors log
    (subst (IsOpenRefusal c.args.state.now c.args.actor c.args.name.now c.args.prov.now c.args.grant) c.in_default.is
    c.requires.decided)
    (c.in_ok-admit.ensures.made actors log) c.done.ensures
