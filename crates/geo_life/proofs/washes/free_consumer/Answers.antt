use Rattle.geo_model.specs.Topology.{Consumer, consumers_of}
use Rattle.geo_model.specs.Freeing.{is_idle}
use Rattle.geo_access.proofs.Folding.{found_begin}
use Rattle.geo_life.specs.Life.{is_out}
use Rattle.geo_life.proofs.FirstWash.{idle_more, idle_found}
use Rattle.geo_life.proofs.washes.free_consumer.Goals as goal

pub loop-id-init : goal.loop-id-init
loop-id-init g c =
    λ granted stored.
    found_begin (λ (x : Consumer). x.number)
    (is_idle granted (is_out c.args.topo.now) c.args.topo.now.topology)
    (consumers_of c.args.topo.now.topology c.args.geom)

-- the stored want is the model's, so this one isn't idle there either, and the first idle one is among the others
pub loop-id-preserved : goal.loop-id-preserved
loop-id-preserved g c =
    λ granted stored.
    rw c.number-from.ensures
    (idle_more granted c.args.topo.now stored c.args.geom c.loop-id.from _ _ c.in-Some.ensures.next.left
    c.in-Some.ensures.next.lives c.is_idle.ensures.idle (c.loop-id.invariant granted stored) c.if-is_idle.false)

pub returns-then-is_idle-clause-found : goal.returns-then-is_idle-clause-found
returns-then-is_idle-clause-found g c =
    λ granted stored.
    idle_found granted c.args.topo.now stored c.args.geom c.loop-id.from _ _ c.in-Some.ensures.next.left
    c.in-Some.ensures.next.lives c.is_idle.ensures.idle (c.loop-id.invariant granted stored) c.if-is_idle.true
