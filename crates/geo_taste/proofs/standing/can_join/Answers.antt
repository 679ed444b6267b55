use Rattle.std.proofs.Common.{◌∙◌}
use Rattle.geo_taste.proofs.JoinLemmas.{can_take_is}
use Rattle.geo_taste.proofs.standing.can_join.Goals as goal

-- the place is free, and the components that were looked at are all of the configuration
pub returns : goal.returns
returns c =
    can_take_is c.args.topo.now.topology c.args.sector c.args.config.now c.args.place c.is_free.result
    c.fit_sector.result c.deref.result.now c.is_free.ensures c.if-not-is_free.false
    c.fit_sector.ensures (c.deref.ensures.value ∙ c.in_ok-consumers.ensures)
