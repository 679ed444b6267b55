use Rattle.std.proofs.Common.{sym, ◌∙◌}
use Rattle.geo_life.specs.Life.{is_out}
use Rattle.geo_life.proofs.FirstWash.{work_provider, work_consumer, work_geom, work_none}
use Rattle.geo_life.proofs.washes.wash_work_of.Goals as goal

-- for each find: the model looks in this order, and what comes before was looked for and not found
pub returns-in-Some-clause-found : goal.returns-in-Some-clause-found
returns-in-Some-clause-found g c =
    λ granted stored.
    work_provider granted (is_out c.args.topo.now) c.args.topo.now.topology c.args.geom c.free_provider.result
    c.free_provider.ensures.found c.in-Some.prov c.in-Some.is

pub returns-in-Some-free_consumer-clause-found : goal.returns-in-Some-free_consumer-clause-found
returns-in-Some-free_consumer-clause-found g c =
    λ granted stored.
    work_consumer granted (is_out c.args.topo.now) c.args.topo.now.topology c.args.geom c.free_provider.result
    c.free_provider.ensures.found c.in_default.is c.free_consumer.result
    (c.free_consumer.ensures.found granted stored) c.in-Some-free_consumer.cons c.in-Some-free_consumer.is

pub returns-then-is_bare-clause-found : goal.returns-then-is_bare-clause-found
returns-then-is_bare-clause-found g c =
    λ granted stored.
    work_geom granted (is_out c.args.topo.now) c.args.topo.now.topology c.args.geom c.free_provider.result
    c.free_provider.ensures.found c.in_default.is c.free_consumer.result
    (c.free_consumer.ensures.found granted stored) c.in_default-free_consumer.is
    (sym c.if-is_bare.true ∙ c.is_bare.ensures.bare)

pub returns-else-is_bare-clause-found : goal.returns-else-is_bare-clause-found
returns-else-is_bare-clause-found g c =
    λ granted stored.
    work_none granted (is_out c.args.topo.now) c.args.topo.now.topology c.args.geom c.free_provider.result
    c.free_provider.ensures.found c.in_default.is c.free_consumer.result
    (c.free_consumer.ensures.found granted stored) c.in_default-free_consumer.is
    (sym c.if-is_bare.false ∙ c.is_bare.ensures.bare)
