use Rattle.std.proofs.Common.{ap, length, arith}
use Rattle.geo_moves.proofs.Openings.{opened_end}
use Rattle.geo_moves.proofs.begins.stand_all.Goals as goal

-- all disks of the header were met, so those stand that stand at the opening
pub returns : goal.returns
returns c =
    opened_end c.args.plan.now c.args.disks.now.items c.loop-disk.disk c.loop-disk.state
    (let long = ap length c.disks-count.ensures.disks in omega (arith, long)) c.loop-disk.invariant
