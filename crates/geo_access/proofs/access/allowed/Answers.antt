use Rattle.std.proofs.Common.{sym, ◌∙◌, arith}
use Rattle.geo_access.proofs.Granting.{holder_is, holder_lives, answered}
use Rattle.geo_access.proofs.Decided.{counted_told}
use Rattle.geo_access.proofs.Coming.{end_of}
use Rattle.geo_access.proofs.Ready.{may_end, may_judge}
use Rattle.geo_access.proofs.access.allowed.Goals as goal

-- the consumer is attached, so its provider stands; no walk has left anything to try
pub try_out-order-requires : goal.try_out-order-requires
try_out-order-requires g c = record {
  lives =
      rw c.place_of-prov.ensures.place
      (holder_lives c.args.topo.now.topology c.place_of-prov.ensures.sound c.args.cons
      (holder_is c.args.topo.now.topology c.args.cons c.requires.holder));
  clear = c.requires.counted.clear;
}

-- the geoms that were met stand, and counts that are right tell of each consumer at the provider
pub judge-refused-requires : goal.judge-refused-requires
judge-refused-requires g c =
    may_judge c.try_out-order.ensures.tried c.place_of-prov.ensures.sound
    (counted_told c.args.topo.now c.place_of-prov.ensures.sound c.requires.counted)

-- the walk met geoms that stand, each once
pub finish-requires : goal.finish-requires
finish-requires g c =
    may_end c.try_out-order.ensures.tried c.place_of-prov.ensures.sound c.requires.counted.clear

-- the walk ends as it began, and what is told is what the judgement says
pub returns : goal.returns
returns g c =
    let told = counted_told c.args.topo.now c.place_of-prov.ensures.sound c.requires.counted in
    let asked =
    answered c.args.cons c.try_out-order.ensures.tried c.place_of-prov.ensures.place c.place_of-prov.ensures.sound
    c.requires.counted c.requires.holder c.requires.nothing c.judge-refused.ensures (sym c.answer.ensures) in
    record {
      same = c.finish.ensures ∙ end_of c.try_out-order.ensures.tried c.place_of-prov.ensures.sound told;
      answer = asked.answer;
      named = asked.named;
      bound = omega (arith, c.try_out-order.ensures.steps, asked.bound);
    }
