use Rattle.std.proofs.Common.{◌≡◌, take, Some}
use Rattle.geo_base.proofs.RunsReach.{Reached}
use Rattle.geo_base.proofs.RunsFault.{from_start}
use Rattle.geo_base.proofs.RunsEnds.{at_place}
use Rattle.geo_base.proofs.runs.read_runs.Given as goal

-- the bytes read begin a text of runs, which leads the reader to this place with these bytes
abbrev pub invariant-loop-at : goal.invariant-loop-at
invariant-loop-at l = record {
  reached : Reached l.place l.bytes.items (take l.at l.text);
  ran : from_start (take l.at l.text) ≡ Some (at_place l.place l.bytes.items);
}
