use Rattle.std.proofs.Common.{arith}
use Rattle.geo_moves.proofs.Ways.{wide_sector}
use Rattle.geo_moves.proofs.mark.media_at.Goals as goal

-- a provider of a sound graph has sectors of at least 512 bytes, so a record has room
pub returns-in-Some-clause-room : goal.returns-in-Some-clause-room
returns-in-Some-clause-room c =
    omega (
      arith,
      wide_sector c.args.topo.now.topology c.provider.ensures.sound c.args.prov _
          c.in-Some.ensures.provider,
    )
