use Rattle.std.proofs.Common.{option_map, Some, sym, ap, ◌∙◌}
use Rattle.geo_model.specs.Tasting.{facts_of}
use Rattle.geo_model.specs.Topology.{provider_at}
use Rattle.geo_mesh.specs.Cells.{provider_seen}
use Rattle.geo_taste.proofs.Asking.{sector_some, going_errored, going_on}
use Rattle.geo_taste.proofs.ask.facts.Goals as goal

pub returns-then-provider : goal.returns-then-provider
returns-then-provider c =
    sym (ap (option_map (facts_of c.args.topo.now.topology))
    (going_errored c.args.topo.now.topology c.in_ok-provider.ensures.sound.orderly.order c.args.taste.now
    (provider_seen c.provider.result c.in_ok-provider.provider.now)
    (sym (ap (provider_at c.args.topo.now.topology) c.provider.ensures) ∙ c.in_ok-provider.ensures.provider)
    c.if-provider.true))

pub facts_of-requires : goal.facts_of-requires
facts_of-requires c =
    sector_some c.args.topo.now.topology c.in_ok-provider.ensures.sound c.provider.result
    (provider_seen c.provider.result c.in_ok-provider.provider.now) c.in_ok-provider.ensures.provider

-- the provider carries no error and the taste's consumer isn't marked, so the taste goes on over it
pub returns : goal.returns
returns c =
    ap (λ f. Some f) (c.facts_of.ensures c.provider.result)
    ∙ sym (ap (option_map (facts_of c.args.topo.now.topology))
    (going_on c.args.topo.now.topology c.in_ok-provider.ensures.sound.orderly.order c.args.taste.now
    (provider_seen c.provider.result c.in_ok-provider.provider.now)
    (sym (ap (provider_at c.args.topo.now.topology) c.provider.ensures) ∙ c.in_ok-provider.ensures.provider)
    c.if-provider.false (sym c.is_spoiled.ensures ∙ c.if-is_spoiled.false)))
