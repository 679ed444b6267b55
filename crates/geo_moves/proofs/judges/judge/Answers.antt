-- Room that is made is no part of the world, so what holds with it holds of the state before it.
use Rattle.geo_model.specs.Step.{judge_next}
use Rattle.geo_moves.proofs.Rooming.{makes-still, same-still, logged-still}
use Rattle.geo_moves.proofs.judges.judge.Goals as goal

pub returns-clause-made : goal.returns-clause-made
returns-clause-made g c log =
    makes-still c.args.state.now c.make_room.new.state c.make_room.ensures.roomed judge_next c.judge_roomed.result
    c.judge_roomed.new.state log (c.judge_roomed.ensures.made log)

pub returns-clause-same : goal.returns-clause-same
returns-clause-same g c =
    same-still c.args.state.now c.make_room.new.state c.make_room.ensures.roomed c.judge_roomed.result
    c.judge_roomed.new.state c.judge_roomed.ensures.same

pub returns-clause-logged : goal.returns-clause-logged
returns-clause-logged g c log has =
    c.judge_roomed.ensures.logged log
    (logged-still c.args.state.now c.make_room.new.state c.make_room.ensures.roomed log has)
