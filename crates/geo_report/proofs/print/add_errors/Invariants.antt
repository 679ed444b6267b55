-- The lines of the errors so far were added.
use Rattle.std.proofs.Common.{◌≡◌, ◌++◌, take, flat_map}
use Rattle.geo_report.specs.Tallies.{error_line}
use Rattle.geo_report.proofs.print.add_errors.Given as goal

abbrev pub invariant-loop-errno : goal.invariant-loop-errno
invariant-loop-errno l = l.text ≡ l.fn.text ++ flat_map (error_line l.tally) (take l.errno-index l.errnos)
