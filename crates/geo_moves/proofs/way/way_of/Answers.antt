use Rattle.std.proofs.Common.{◌≡◌, ◌∙◌, sym, subst, None, IfOk}
use Rattle.geo_model.specs.Topology.{provider_at}
use Rattle.geo_model.specs.Bios.{Way}
use Rattle.geo_bio.specs.Rows.{as_bio}
use Rattle.geo_mesh.specs.Cells.{geom_seen, provider_seen}
use Rattle.geo_moves.specs.Ways.{IsModelWay}
use Rattle.geo_moves.proofs.Ways.{errored_found, errored_nowhere, way_errored, way_nowhere, way_bare, way_there}
use Rattle.geo_moves.proofs.way.way_of.Goals as goal

-- there is no provider of that number, so none that carries an error, and the bio bounces
pub returns-in_default : goal.returns-in_default
returns-in_default c =
    let t = c.args.topo.now.topology in
    let none : provider_at t c.args.bio.now.to ≡ None = c.in_default.ensures.provider in
    way_nowhere t (as_bio 0 c.args.bio.now) (errored_nowhere t c.args.bio.now.to none) none

pub returns-then-prov : goal.returns-then-prov
returns-then-prov c =
    let t = c.args.topo.now.topology in
    way_errored t (as_bio 0 c.args.bio.now)
    (errored_found t c.provider.ensures.sound.orderly.order c.args.bio.now.to _ c.in-Some.ensures.provider
    ∙ c.if-prov.true)

-- the bio can go down, and its provider and geom are those that were looked up
pub way_at-requires-clause-cut : goal.way_at-requires-clause-cut
way_at-requires-clause-cut c no_disk moves =
    c.requires (provider_seen c.args.bio.now.to c.in-Some.prov.now)
    (geom_seen c.in-Some.prov.now.geom c.in-Some-geom.geom.now) c.in-Some.ensures.provider
    c.in-Some-geom.ensures.geom no_disk moves

-- the provider carries no error and its geom stands, so the geom's class decides
pub returns-in-Some-geom : goal.returns-in-Some-geom
returns-in-Some-geom c =
    let t = c.args.topo.now.topology in
    subst (λ (way : Way). IfOk c.way_at.result (λ own. IsModelWay t own way))
    (sym (way_there t (as_bio 0 c.args.bio.now) _ _
    (errored_found t c.provider.ensures.sound.orderly.order c.args.bio.now.to _ c.in-Some.ensures.provider
    ∙ c.if-prov.false) c.in-Some.ensures.provider c.in-Some-geom.ensures.geom))
    c.way_at.ensures

-- the provider carries no error, but without a geom there is no way
pub returns-in-None : goal.returns-in-None
returns-in-None c =
    let t = c.args.topo.now.topology in
    way_bare t (as_bio 0 c.args.bio.now) _
    (errored_found t c.provider.ensures.sound.orderly.order c.args.bio.now.to _ c.in-Some.ensures.provider
    ∙ c.if-prov.false) c.in-Some.ensures.provider c.in-None.ensures.geom
