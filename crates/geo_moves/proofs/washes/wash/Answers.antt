use Rattle.geo_moves.proofs.Deciding.{wash-makes}
use Rattle.geo_moves.proofs.washes.wash.Goals as goal

-- what goes is what the model finds to wash first
pub returns-clause-made : goal.returns-clause-made
returns-clause-made c =
    wash-makes c.args.state.now c.requires.stands c.due_work-work.result c.due_work-work.ensures.found
    c.take_part.new.state c.take_part.ensures.made
