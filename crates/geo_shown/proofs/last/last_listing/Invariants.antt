-- No entry from here on is a listing of the seat.
use Rattle.std.proofs.Common.{◌≡◌, ◌≤◌, length, take}
use Rattle.geo_headline.specs.Viewing.{shown}
use Rattle.geo_shown.proofs.last.last_listing.Given as goal

abbrev pub invariant-loop-count : goal.invariant-loop-count
invariant-loop-count l = record {
  within : l.count ≤ length l.entries;
  so_far : shown l.seat (take l.count l.entries) ≡ shown l.seat l.entries;
}

abbrev pub decreases-loop-count : goal.decreases-loop-count
decreases-loop-count l = l.count
