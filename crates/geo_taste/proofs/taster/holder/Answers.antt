use Rattle.std.proofs.Common.{sym, ap, ◌∙◌, subst}
use Rattle.geo_access.specs.Access.{IsHolder, place_of}
use Rattle.geo_taste.proofs.Coming.{settled_placed}
use Rattle.geo_taste.proofs.Reading.{taster_holds, taster_place}
use Rattle.geo_taste.proofs.taster.holder.Goals as goal

-- the taste's consumer is found at the tasted provider, where it holds its counts
pub returns-clause-holds : goal.returns-clause-holds
returns-clause-holds c =
    subst (λ n. IsHolder c.args.topo.now.topology n) (sym c.consumer-consumer.ensures)
    (taster_holds c.args.topo.now.topology c.consumer.ensures.sound c.args.taste.now c.requires.tasting.tasting)

pub returns-clause-place : goal.returns-clause-place
returns-clause-place c =
    ap (place_of c.args.topo.now.topology) c.consumer-consumer.ensures
    ∙ taster_place c.args.topo.now.topology c.consumer.ensures.sound c.args.taste.now c.requires.tasting.tasting

pub returns-clause-placed : goal.returns-clause-placed
returns-clause-placed c = settled_placed c.args.topo.now.topology c.requires.settled.attached
