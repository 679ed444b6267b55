-- What is reported of a script that was run in threads.
use Rattle.std.specs.Prelude.{◌≡◌, List, Option, Some, None, ⊤}
use Rattle.geo_model.specs.declared.listing.GeomLine.{GeomLine}
use Rattle.geo_model.specs.World.{World}
use Rattle.geo_model.specs.Listing.{listing}
use Rattle.geo_headline.specs.Modes.{Mode, RunMode, TraceMode, WatchMode}
use Rattle.geo_jobs.specs.declared.left.Seen.{Seen}
use Rattle.geo_jobs.specs.declared.left.Seen.TheVariants as seens
use Rattle.geo_run.specs.declared.threaded_report.ThreadedReport.{ThreadedReport}
use Rattle.geo_run.specs.declared.threaded_report.ThreadedReport.TheVariants as reports

abbrev pub mode_reported : ThreadedReport → Mode
mode_reported reports.Run = RunMode
mode_reported (reports.Watch opening seen) = WatchMode
mode_reported reports.Trace = TraceMode

-- a watcher has the mesh as it is printed in the world with which it opened
abbrev pub KnowsOpening : ThreadedReport → World → Type 0
KnowsOpening (reports.Watch opening seen) w = opening ≡ listing w
KnowsOpening _ w = ⊤

-- the list that was seen last, if there is one
abbrev pub list_in : Seen → Option (List GeomLine)
list_in (seens.List list) = Some list
list_in _ = None
