use Rattle.std.proofs.Common.{arith, refl}
use Rattle.geo_state.proofs.Moves.{noted_step, noted_lives, noted_few, noted_end}
use Rattle.geo_state.proofs.splits.note_all.Goals as goal

pub loop-target-init : goal.loop-target-init
loop-target-init c = record { same = refl; live = c.requires.live; few = c.requires.few }

-- each consumer left stands, with room in its count for all requests that are left
pub note_active-requires : goal.note_active-requires
note_active-requires c = record {
  lives =
      noted_lives c.args.topo.now c.loop-target.topo c.loop-target.target-index c.args.targets.now
      c.target-item.result (omega arith) c.target-item.is c.loop-target.invariant;
  few =
      noted_few c.args.topo.now c.loop-target.topo c.loop-target.target-index c.args.targets.now
      c.target-item.result (omega arith) c.target-item.is c.loop-target.invariant;
}

pub loop-target-preserved : goal.loop-target-preserved
loop-target-preserved c =
    noted_step c.args.topo.now c.loop-target.topo c.loop-target.target-index c.args.targets.now
    c.note_active.new.self c.target-item.result (omega arith) c.target-item.is c.note_active.ensures
    c.loop-target.invariant

pub returns : goal.returns
returns c =
    noted_end c.args.topo.now c.loop-target.topo c.loop-target.target-index c.args.targets.now
    c.loop-target-test.false c.loop-target.invariant
