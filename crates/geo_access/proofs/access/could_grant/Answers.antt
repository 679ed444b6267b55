use Rattle.std.proofs.Common.{sym, ◌∙◌, arith}
use Rattle.geo_access.proofs.Decided.{counted_told}
use Rattle.geo_access.proofs.Ready.{may_end, opener_asked, may_judge}
use Rattle.geo_access.proofs.access.could_grant.Goals as goal

pub try_out-order-requires : goal.try_out-order-requires
try_out-order-requires g c = record { lives = c.requires.lives; clear = c.requires.counted.clear }

-- the geoms that were met stand, and counts that are right tell of each consumer at the provider
pub decide-refused-requires : goal.decide-refused-requires
decide-refused-requires g c =
    may_judge c.try_out-order.ensures.tried c.try_out-order.ensures.sound
    (counted_told c.args.topo.now c.try_out-order.ensures.sound c.requires.counted)

pub finish-requires : goal.finish-requires
finish-requires g c =
    may_end c.try_out-order.ensures.tried c.try_out-order.ensures.sound c.requires.counted.clear

-- for both ways: nothing that was tried is kept, and the judgement is that of the mesh with the new consumer
pub returns-in-Some : goal.returns-in-Some
returns-in-Some g c =
    let asked =
    opener_asked c.try_out-order.ensures.tried c.try_out-order.ensures.sound c.requires.counted
    (sym c.in-Some.is ∙ c.decide-refused.ensures) in
    record {
      same = c.finish.ensures ∙ asked.ends;
      answer = asked.told;
      bound = omega (arith, c.try_out-order.ensures.steps, asked.bound);
    }

pub returns-in-None : goal.returns-in-None
returns-in-None g c =
    let asked =
    opener_asked c.try_out-order.ensures.tried c.try_out-order.ensures.sound c.requires.counted
    (sym c.in-None.is ∙ c.decide-refused.ensures) in
    record {
      same = c.finish.ensures ∙ asked.ends;
      answer = asked.told;
      bound = omega (arith, c.try_out-order.ensures.steps, asked.bound);
    }
