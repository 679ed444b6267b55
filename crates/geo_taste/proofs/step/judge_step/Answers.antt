use Rattle.geo_taste.specs.Making.{both}
use Rattle.geo_taste.specs.Judging.{MayJudge}
use Rattle.geo_taste.specs.Taster.{IsSettled, IsTasteOf}
use Rattle.geo_taste.proofs.Taking.{came_told, comes_of, known_fact, said_goes, said_idle, said_low, said_place, said_shape}
use Rattle.geo_taste.proofs.step.judge_step.Goals as goal

-- nothing was made, so the events are as before and what came of it is the model's step
pub returns-in-Came-clause-judged : goal.returns-in-Came-clause-judged
returns-in-Came-clause-judged g c =
    came_told c.args.topo.now c.say.new.topo c.args.taste.now c.say.new.taste c.say.result c.say.ensures.said
    c.args.queue.now c.in-Came.judged c.in-Came.is c.say.ensures.topo c.say.ensures.plain

pub returns-in-Came-clause-settled : goal.returns-in-Came-clause-settled
returns-in-Came-clause-settled g c =
    known_fact c.in-Came.judged (MayJudge (both c.args.topo.now c.args.queue.now) c.args.taste.now)
    (IsSettled c.say.new.topo) c.say.ensures.settled

pub returns-in-Came-clause-tasting : goal.returns-in-Came-clause-tasting
returns-in-Came-clause-tasting g c =
    known_fact c.in-Came.judged (MayJudge (both c.args.topo.now c.args.queue.now) c.args.taste.now)
    (IsTasteOf c.say.new.topo c.say.new.taste) c.say.ensures.tasting

-- a class accepts only a read that is back of a taste that goes on, and saying so changed nothing
pub take_shape-requires : goal.take_shape-requires
take_shape-requires g c =
    let told = said_shape c.args.topo.now c.say.new.topo c.args.taste.now c.say.new.taste c.say.result
    c.say.ensures.said c.in-Accepts.shape c.in-Accepts.is in
    record {
      settled = c.say.ensures.settled;
      tasting = c.say.ensures.tasting;
      idle = said_idle told;
      goes = said_goes told;
      low = said_low told c.requires.low;
      place = said_place told;
    }

-- saying that a class accepts changed nothing, so what was taken was taken from the start
pub returns-in-Accepts : goal.returns-in-Accepts
returns-in-Accepts g c =
    let told = said_shape c.args.topo.now c.say.new.topo c.args.taste.now c.say.new.taste c.say.result
    c.say.ensures.said c.in-Accepts.shape c.in-Accepts.is in
    let comes = comes_of told c.args.queue.now c.take_shape.new.topo c.take_shape.new.queue c.take_shape.new.taste
    c.take_shape.result c.take_shape.ensures.taken c.take_shape.ensures.same c.take_shape.ensures.taste
    c.say.ensures.settled c.say.ensures.tasting in
    record {
      judged = comes.judged;
      same = comes.same;
      taste = comes.taste;
      settled = comes.settled;
      tasting = comes.tasting;
      spare = c.take_shape.ensures.spare;
      bound = c.say.ensures.bound;
    }
