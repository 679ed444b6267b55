use Rattle.std.proofs.Common.{arith}
use Rattle.geo_moves.proofs.Ways.{wide_sector}
use Rattle.geo_moves.proofs.gate.look_through.Goals as goal

-- a provider of a sound graph has sectors of at least 512 bytes
pub refusal-requires : goal.refusal-requires
refusal-requires c =
    omega (
      arith,
      wide_sector c.args.topo.now.topology c.provider.ensures.sound _ _
          c.in-Some-provider.ensures.provider,
    )
