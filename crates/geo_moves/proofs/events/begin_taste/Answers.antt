use Rattle.geo_moves.proofs.Offering.{began-kept, began-done, roomed-kept}
use Rattle.geo_moves.proofs.events.begin_taste.Goals as goal

-- only room was made, and that is no part of the world
pub returns-in_err-taste-clause-kept : goal.returns-in_err-taste-clause-kept
returns-in_err-taste-clause-kept c =
    roomed-kept c.args.state.now c.requires.stands c.begin.new.topo c.in_err-taste.ensures.same
    c.begin.ensures.settled

-- no taste was under way and the provider is to be tasted, so the model begins the same taste, with the same consumer
pub returns-clause-made : goal.returns-clause-made
returns-clause-made c =
    began-done c.args.state.now c.requires.stands c.requires.none c.args.prov c.begin.new.topo
    c.in_ok-taste.ensures.added c.begin.ensures.settled c.drop_head.new.self c.drop_head.ensures
    c.in_ok-taste.taste c.in_ok-taste.ensures.taste c.requires.tasted

-- a taste that begins has no read out, and its consumer is new and no handle's
pub returns-clause-kept : goal.returns-clause-kept
returns-clause-kept c =
    began-kept c.args.state.now c.requires.stands c.requires.none c.args.prov c.begin.new.topo
    c.in_ok-taste.ensures.added c.begin.ensures.settled c.drop_head.new.self c.drop_head.ensures
    c.in_ok-taste.taste c.in_ok-taste.ensures.taste
