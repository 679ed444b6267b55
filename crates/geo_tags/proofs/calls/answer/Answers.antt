use Rattle.geo_tags.proofs.Handed.{delivered_waits, delivers}
use Rattle.geo_tags.proofs.calls.answer.Goals as goal

pub returns-in-Ok-clause-waits : goal.returns-in-Ok-clause-waits
returns-in-Ok-clause-waits c =
    delivered_waits c.args.session.now c.step.new.self c.args.tokens.now c.requires.waits c.history.ensures.sound
    c.history.ensures.steady c.history.ensures.fitting c.args.bio c.args.got c.in-Ok.outcome c.in-Ok.ensures.answer

pub returns-in-Ok-clause-delivers : goal.returns-in-Ok-clause-delivers
returns-in-Ok-clause-delivers c =
    delivers c.args.session.now c.step.new.self c.args.tokens.now c.requires.waits c.history.ensures.sound
    c.history.ensures.steady c.history.ensures.fitting c.args.bio c.args.got c.in-Ok.outcome c.in-Ok.ensures.answer
