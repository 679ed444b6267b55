use Rattle.std.proofs.Common.{subst, sym}
use Rattle.geo_mesh.specs.Topo.{IsButForRoom}
use Rattle.geo_taste.specs.Making.{with_all_attached}
use Rattle.geo_taste.specs.Standing.{MayOffer}
use Rattle.geo_taste.proofs.Raising.{can_rise, risen_is, still_may}
use Rattle.geo_taste.proofs.raise.raise.Goals as goal

-- for each condition: a geom just made stands, without a provider, and what could be stood on still can
pub attach_all-requires-clause-lives : goal.attach_all-requires-clause-lives
attach_all-requires-clause-lives c =
    rw c.in-Ok.ensures.number
    (can_rise c.args.topo.now c.new_geom.new.self c.args.geom.kind c.args.geom.name c.args.geom.config
    c.args.automatic c.in-Ok.ensures.added c.args.provs.now c.in-Ok.ensures.sound c.requires.stand).lives

pub attach_all-requires-clause-bare : goal.attach_all-requires-clause-bare
attach_all-requires-clause-bare c =
    rw c.in-Ok.ensures.number
    (can_rise c.args.topo.now c.new_geom.new.self c.args.geom.kind c.args.geom.name c.args.geom.config
    c.args.automatic c.in-Ok.ensures.added c.args.provs.now c.in-Ok.ensures.sound c.requires.stand).bare

pub attach_all-requires-clause-stand : goal.attach_all-requires-clause-stand
attach_all-requires-clause-stand c =
    (can_rise c.args.topo.now c.new_geom.new.self c.args.geom.kind c.args.geom.name c.args.geom.config
    c.args.automatic c.in-Ok.ensures.added c.args.provs.now c.in-Ok.ensures.sound c.requires.stand).stand

pub returns-clause-raised : goal.returns-clause-raised
returns-clause-raised c =
    risen_is c.args.topo.now c.new_geom.new.self c.args.geom.kind c.args.geom.name c.args.geom.config
    c.args.automatic c.in-Ok.ensures.added c.attach_all.new.topo c.args.provs.now
    (subst (λ n. IsButForRoom c.attach_all.new.topo (with_all_attached c.new_geom.new.self n c.args.provs.now))
    c.in-Ok.ensures.number c.attach_all.ensures.attached)

pub returns-clause-may : goal.returns-clause-may
returns-clause-may c =
    still_may c.new_geom.new.self c.attach_all.new.topo c.in-Ok.id c.args.provs.now c.attach_all.ensures.attached
    (subst (MayOffer c.new_geom.new.self.topology) (sym c.in-Ok.ensures.number)
    (can_rise c.args.topo.now c.new_geom.new.self c.args.geom.kind c.args.geom.name c.args.geom.config
    c.args.automatic c.in-Ok.ensures.added c.args.provs.now c.in-Ok.ensures.sound c.requires.stand).may)
