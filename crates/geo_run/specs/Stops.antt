-- What is due at the end of a run: its report, or why there is none.
use Rattle.std.specs.Prelude.{◌≡◌, ℕ, List, Option, Some, None, ⊤}
use Rattle.geo_headline.specs.Endings.{Ending, Reported, ReportedButFault, BadWords, NoScript, ReadFault, ShelfFault, NoDisk, BadSize, OutOfMemory, LogFull, TooLong, Answered, NoTrace}
use Rattle.geo_run.specs.declared.stop.Stop.{Stop}
use Rattle.geo_run.specs.declared.stop.Stop.TheVariants as stops
use Rattle.geo_run.specs.declared.due.Due.{Due}
use Rattle.geo_run.specs.declared.due.Due.TheVariants as dues

-- how a run ends that stops so
abbrev pub ending_of : Stop → Ending
ending_of stops.BadWords = BadWords
ending_of (stops.NoScript line cause) = NoScript line cause
ending_of stops.ReadFault = ReadFault
ending_of (stops.ShelfFault name) = ShelfFault name
ending_of (stops.NoDisk name) = NoDisk name
ending_of (stops.BadSize name) = BadSize name
ending_of stops.NoMemory = OutOfMemory
ending_of stops.LogFull = LogFull
ending_of stops.TooLong = TooLong
ending_of (stops.Answered answer) = Answered answer
ending_of (stops.NoTrace line) = NoTrace line

-- how a run ends whose report this is, where the disk of a name may have been kept back
abbrev pub ending_with : Option (List ℕ) → Ending
ending_with None = Reported
ending_with (Some name) = ReportedButFault name

-- how a run ends of which this is due
abbrev pub ending_by : Due → Ending
ending_by (dues.Report text kept) = ending_with kept
ending_by (dues.Stopped stop) = ending_of stop

-- the report, if one is due, is this text
abbrev pub IsDue : Due → List ℕ → Type 0
IsDue (dues.Report text kept) reported = text ≡ reported
IsDue (dues.Stopped stop) reported = ⊤
