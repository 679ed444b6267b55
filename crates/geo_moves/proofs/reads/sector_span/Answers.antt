use Rattle.std.proofs.Common.{arith}
use Rattle.geo_moves.proofs.Reading.{sector-fits}
use Rattle.geo_moves.proofs.reads.sector_span.Goals as goal

-- the sector lies within the provider, whose size is in range
pub overflow_mul-result : goal.overflow_mul-result
overflow_mul-result c =
    let fits =
    sector-fits c.args.topo.now.topology c.in-Some.ensures.sound c.args.prov c.args.sector _
    c.in-Some.ensures.provider c.requires in
    rw c.from-size.ensures (omega (arith, fits))
