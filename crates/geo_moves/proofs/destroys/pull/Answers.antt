use Rattle.std.proofs.Common.{sym, ◌∙◌}
use Rattle.geo_state.specs.declared.state.State.{State}
use Rattle.geo_moves.proofs.Finding.{disk-read, disk-unread, found-lives, number-of, pull-absent, pull-done, pull-unknown}
use Rattle.geo_moves.proofs.destroys.pull.Goals as goal
use Rattle.geo_base.proofs.Options.{none-mapped}
use Rattle.geo_model.specs.Topology.{Geom}
use Rattle.geo_model.specs.World.{Config}

pub returns-in_default-clause-does : goal.returns-in_default-clause-does
returns-in_default-clause-does c = λ log actors.
    let s : State = c.args.state.now in
    pull-unknown s s c.args.line c.refused.result actors log c.args.name.now
    (disk-unread s c.args.name.now c.deref.ensures.value c.disk_named.ensures c.in_default.is actors log)
    c.refused.ensures

pub returns-in_default-standing_geom-clause-does : goal.returns-in_default-standing_geom-clause-does
returns-in_default-standing_geom-clause-does c = λ log actors.
    let s : State = c.args.state.now in
    let named = disk-read s c.args.name.now c.deref.ensures.value c.disk_named.ensures c.in-Some.is in
    pull-absent s s c.args.line c.refused-in_default-standing_geom.result actors log c.args.name.now _
    (named.found actors log)
    (none-mapped (λ (g : Geom Config). g.number) _ (sym c.standing_geom.ensures ∙ c.in_default-standing_geom.is))
    c.refused-in_default-standing_geom.ensures

pub wither_geom-requires-clause-lives : goal.wither_geom-requires-clause-lives
wither_geom-requires-clause-lives c =
    let s : State = c.args.state.now in
    found-lives s.topo.topology _ c.in-Some-standing_geom.geom
    (number-of _ c.in-Some-standing_geom.geom (sym c.in-Some-standing_geom.is ∙ c.standing_geom.ensures))

-- the disk is the header's of the name, and the geom that withers is the one that stands for it
pub returns-clause-does : goal.returns-clause-does
returns-clause-does c = λ log actors.
    let s : State = c.args.state.now in
    let named = disk-read s c.args.name.now c.deref.ensures.value c.disk_named.ensures c.in-Some.is in
    pull-done s c.wither_geom.new.state c.args.line c.done.result actors log c.args.name.now _
    (named.found actors log) c.in-Some-standing_geom.geom
    (number-of _ c.in-Some-standing_geom.geom (sym c.in-Some-standing_geom.is ∙ c.standing_geom.ensures))
    (c.wither_geom.ensures.withered actors log) c.done.ensures
