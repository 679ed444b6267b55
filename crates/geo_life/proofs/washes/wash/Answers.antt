use Rattle.std.proofs.Common.{sym, subst}
use Rattle.geo_mesh.specs.Topo.{without_geom}
use Rattle.geo_life.specs.Life.{CountsStay}
use Rattle.geo_life.specs.Wash.{IsFree}
use Rattle.geo_life.proofs.FirstWash.{not_withering}
use Rattle.geo_life.proofs.Dropping.{unused_stays, bare_stays, roomy}
use Rattle.geo_life.proofs.washes.wash.Goals as goal

-- for DEV and TASTE: a geom that can go withers, and this one doesn't
pub destroy_geom-requires-clause-not_dev : goal.destroy_geom-requires-clause-not_dev
destroy_geom-requires-clause-not_dev g c =
    not_withering c.args.topo.now.topology c.look.ensures.sound.orderly.order c.in-Geom.geom 1 c.requires.dev
    (subst (IsFree c.args.topo.now) c.in-Geom.is c.requires.free).withering

pub destroy_geom-requires-clause-not_taste : goal.destroy_geom-requires-clause-not_taste
destroy_geom-requires-clause-not_taste g c =
    not_withering c.args.topo.now.topology c.look.ensures.sound.orderly.order c.in-Geom.geom 2 c.requires.taste
    (subst (IsFree c.args.topo.now) c.in-Geom.is c.requires.free).withering

-- nothing is attached to the provider, so it has no counts that anything hangs on
pub returns-in-Provider-clause-kept : goal.returns-in-Provider-clause-kept
returns-in-Provider-clause-kept g c =
    subst (CountsStay c.args.topo.now) (sym c.destroy_provider.ensures)
    (unused_stays c.args.topo.now c.in-Provider.prov
    (subst (IsFree c.args.topo.now) c.in-Provider.is c.requires.free))

-- a geom without consumers wants nothing, so no count hangs on it
pub returns-in-Geom-clause-kept : goal.returns-in-Geom-clause-kept
returns-in-Geom-clause-kept g c =
    roomy c.args.topo.now (without_geom c.args.topo.now c.in-Geom.geom) c.destroy_geom.new.self
    c.destroy_geom.ensures.removed
    (bare_stays c.args.topo.now c.look.ensures.sound c.in-Geom.geom
    (subst (IsFree c.args.topo.now) c.in-Geom.is c.requires.free).no_consumer)
