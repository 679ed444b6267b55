use Rattle.std.proofs.Common.{sym, ◌∙◌}
use Rattle.geo_taste.proofs.Saying.{said_going}
use Rattle.geo_taste.proofs.judge.say.Goals as goal

-- only a taste that goes on has facts, and they are those of its provider
pub returns-in-Some-clause-said : goal.returns-in-Some-clause-said
returns-in-Some-clause-said g c =
    said_going c.args.topo.now c.args.taste.now c.say_on.new.topo c.say_on.new.taste c.say_on.result _
    (sym c.in-Some.is ∙ c.facts.ensures) c.say_on.ensures.said
