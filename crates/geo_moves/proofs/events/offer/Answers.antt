use Rattle.std.proofs.Common.{sym, ◌∙◌}
use Rattle.geo_moves.proofs.Offering.{passed-at}
use Rattle.geo_moves.proofs.events.offer.Goals as goal

-- the provider isn't to be tasted, so in the model too its event only goes
pub returns-clause-made : goal.returns-clause-made
returns-clause-made c =
    passed-at c.args.state.now c.requires.stands c.drop_head.new.self c.drop_head.ensures c.args.prov
    (sym c.if-is_tasted.false ∙ c.is_tasted.ensures)
