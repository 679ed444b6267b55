use Rattle.geo_state.proofs.FirmLemmas.{firm-order}
use Rattle.geo_moves.proofs.Admitting.{next-unknown}
use Rattle.geo_moves.proofs.Stepping.{step-placed}
use Rattle.geo_moves.proofs.Appending.{able-lives, able-stands, answer-told, kept-told, room-told, same-told, used-told}
use Rattle.geo_moves.proofs.appends.join_component.Goals as goal

pub join_new-requires-clause-placed : goal.join_new-requires-clause-placed
join_new-requires-clause-placed g c = step-placed c.args.state.now c.requires.stands

-- the next number was given to no consumer, so no requests are counted of it
pub join_new-requires-clause-unknown : goal.join_new-requires-clause-unknown
join_new-requires-clause-unknown g c =
    next-unknown c.args.state.now c.requires.stands.kept
    (firm-order c.requires.stands.firm.0 c.args.state.now c.requires.stands.firm.1)

-- no test is against the append, so the concat and the provider are there
pub join_new-requires-clause-stands : goal.join_new-requires-clause-stands
join_new-requires-clause-stands g c =
    able-stands c.args.state.now c.requires.stands c.args.growing.now c.args.below.now c.requires.able

pub join_new-requires-clause-lives : goal.join_new-requires-clause-lives
join_new-requires-clause-lives g c =
    able-lives c.args.state.now c.requires.stands c.args.growing.now c.args.below.now c.requires.able

-- counts that are stored are the model's, so they refuse the consumer for what the model does
pub returns-clause-answer : goal.returns-clause-answer
returns-clause-answer g c =
    answer-told c.args.state.now c.requires.stands c.join_new.new.topo c.join_new.result
    c.args.growing.now c.args.below.now c.join_new.ensures.answer

-- the mesh but for its next number is the same, and so is the world
pub returns-clause-refused : goal.returns-clause-refused
returns-clause-refused g c =
    used-told c.args.state.now c.requires.stands c.join_new.new.topo c.join_new.result c.join_new.ensures.refused

pub returns-clause-same : goal.returns-clause-same
returns-clause-same g c =
    same-told c.args.state.now c.requires.stands c.join_new.new.topo c.join_new.result c.join_new.ensures.same

-- nothing is kept of a number that was used up
pub returns-clause-kept : goal.returns-clause-kept
returns-clause-kept g c =
    kept-told c.args.state.now c.requires.stands c.join_new.new.topo c.join_new.result c.join_new.ensures.refused

pub returns-clause-kept_still : goal.returns-clause-kept_still
returns-clause-kept_still g c =
    room-told c.args.state.now c.requires.stands c.join_new.new.topo c.join_new.result c.join_new.ensures.same
