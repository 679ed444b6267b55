-- The replies to the lines so far were counted, each of fewer than 2^64 bytes.
use Rattle.std.proofs.Common.{◌*◌, ◌^◌, ◌≤◌, take}
use Rattle.geo_report.specs.Tallies.{IsTally, replies_of}
use Rattle.geo_report.proofs.tally.tally_of.Given as goal

abbrev pub invariant-loop-command : goal.invariant-loop-command
invariant-loop-command l = record {
  tally : IsTally (replies_of l.log (take l.command-index l.commands)) l.tally;
  bytes : l.tally.bytes ≤ l.command-index * 2 ^ 64;
}
