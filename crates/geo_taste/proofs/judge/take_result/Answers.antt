use Rattle.std.proofs.Common.{Some, None}
use Rattle.geo_model.specs.Demand.{no_counts}
use Rattle.geo_class.specs.Taste.{verdict_back}
use Rattle.geo_taste.proofs.Saying.{weighed_tasting, taken_told}
use Rattle.geo_taste.proofs.judge.take_result.Goals as goal

-- with a shape or without: it was found by the provider's facts, as the model finds it
pub returns-in-Some-clause-taken : goal.returns-in-Some-clause-taken
returns-in-Some-clause-taken c granted q p kind got asked facts =
    taken_told granted q c.args.taste.now p kind c.args.facts.now facts got asked c.weigh_back.result
    (Some c.in-Some.shape) c.in-Some.is (c.weigh_back.ensures.shape granted) c.weigh_back.new.self
    (c.weigh_back.ensures.taste granted)

pub returns-in-None-clause-taken : goal.returns-in-None-clause-taken
returns-in-None-clause-taken c granted q p kind got asked facts =
    taken_told granted q c.args.taste.now p kind c.args.facts.now facts got asked c.weigh_back.result None
    c.in-None.is (c.weigh_back.ensures.shape granted) c.weigh_back.new.self (c.weigh_back.ensures.taste granted)

-- with a shape or without: weighing leaves the taste its consumer, which holds nothing
pub returns-in-Some-clause-tasting : goal.returns-in-Some-clause-tasting
returns-in-Some-clause-tasting c =
    weighed_tasting (λ n. no_counts) c.args.taste.now c.args.facts.now
    (verdict_back (λ n. no_counts) c.args.taste.now c.args.facts.now) c.weigh_back.new.self
    (c.weigh_back.ensures.taste (λ n. no_counts))

pub returns-in-None-clause-tasting : goal.returns-in-None-clause-tasting
returns-in-None-clause-tasting c =
    weighed_tasting (λ n. no_counts) c.args.taste.now c.args.facts.now
    (verdict_back (λ n. no_counts) c.args.taste.now c.args.facts.now) c.weigh_back.new.self
    (c.weigh_back.ensures.taste (λ n. no_counts))
