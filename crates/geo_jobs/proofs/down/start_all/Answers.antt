use Rattle.std.proofs.Common.{ap, arith, ◌∙◌}
use Rattle.geo_lane.specs.LanePass.{LanePassView}
use Rattle.geo_jobs.proofs.Tickets.{puts_length, puts_same}
use Rattle.geo_jobs.specs.Hints.{start_hints}
use Rattle.geo_jobs.proofs.Starting.{starts_length, starts_more, starts_none}
use Rattle.geo_jobs.proofs.down.start_all.Goals as goal

-- at most as many tickets were put as children were passed, and these fit 32 bits
pub start_one-requires : goal.start_one-requires
start_one-requires g c =
    let front = start_hints c.args.first c.loop-k.k in
    record {
      own =
          ap (λ (l : LanePassView). l.lane) (puts_same c.args.pass.now front c.loop-k.pass c.loop-k.invariant)
          ∙ c.requires.lane_is;
      room =
          omega (
            arith,
            puts_length c.args.pass.now front c.loop-k.pass c.loop-k.invariant,
            starts_length c.args.first c.loop-k.k,
          );
    }

pub returns-clause-few : goal.returns-clause-few
returns-clause-few g c = omega (arith, starts_length c.args.first c.args.count)

pub loop-k-init : goal.loop-k-init
loop-k-init g c = starts_none c.args.pass.now c.args.first

pub loop-k-preserved : goal.loop-k-preserved
loop-k-preserved g c =
    starts_more c.args.pass.now c.loop-k.pass c.start_one.new.pass c.args.first c.loop-k.k c.loop-k.invariant
    c.start_one.ensures
