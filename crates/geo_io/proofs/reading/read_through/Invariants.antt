use Rattle.std.proofs.Common.{◌≡◌, ◌+◌, ◌≤◌, vec_len}
use Rattle.geo_io.specs.Source.{Gives}
use Rattle.geo_io.proofs.reading.read_through.Given as goal

-- all that was taken stands here, within the limit, a byte or more for each turn; no read failed
abbrev pub invariant-loop-turn : goal.invariant-loop-turn
invariant-loop-turn g l = record {
  taken : Gives (g.S.Source.view l.fn.source) l.bytes.items (g.S.Source.view l.source);
  grown : l.turn ≤ vec_len l.bytes;
  within : vec_len l.bytes ≤ l.limit;
  told : (g.S.Source.view l.source).faults ≡ (g.S.Source.view l.fn.source).faults;
  reads : (g.S.Source.view l.source).reads ≤ (g.S.Source.view l.fn.source).reads + l.turn;
}
