-- The status with which the program ends.
use Rattle.std.specs.Prelude.{ℕ}
use Rattle.geo_serving.specs.declared.halt.Halt.{Halt}
use Rattle.geo_serving.specs.declared.halt.Halt.TheVariants as halts
use Rattle.geomnbd.specs.declared.end.End.{End}
use Rattle.geomnbd.specs.declared.end.End.TheVariants as ends
use Rattle.geomnbd.specs.declared.stop.Stop.{Stop}
use Rattle.geomnbd.specs.declared.stop.Stop.TheVariants as stops

abbrev pub stop_status : Stop → ℕ
stop_status stops.BadWords = 1
stop_status stops.NoFile = 2
stop_status (stops.NoScript line) = 2
stop_status stops.ReadFault = 3
stop_status (stops.NoDisk disk) = 5
stop_status stops.NoMemory = 6
stop_status (stops.Refused line) = 7
stop_status (stops.NoExport export) = 7

-- a client that is gone ends the program like one that says so
abbrev pub halt_status : Halt → ℕ
halt_status halts.Gone = 0
halt_status halts.ReadFault = 3
halt_status halts.WriteFault = 4
halt_status halts.NoMemory = 6

abbrev pub status_of : End → ℕ
status_of ends.Over = 0
status_of (ends.Halted halt) = halt_status halt
status_of (ends.Stopped stop) = stop_status stop
