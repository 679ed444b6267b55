-- A plan that grows by lines.
use Rattle.std.specs.Prelude.{◌≡◌, Result, Ok, Err}
use Rattle.geo_model.specs.declared.command.Cause.{Cause}
use Rattle.geo_model.specs.Script.{Fault}
use Rattle.geo_model.specs.World.{Plan}
use Rattle.geo_script.specs.declared.refusal.LineRefusal.{LineRefusal}
use Rattle.geo_script.specs.declared.refusal.LineRefusal.TheVariants as line
use Rattle.geo_script.specs.declared.refusal.ParseRefusal.{ParseRefusal}
use Rattle.geo_script.specs.declared.refusal.ParseRefusal.TheVariants as text

-- the plan that a line leaves, unless memory ran out
abbrev pub LineLeaves : Result (Unit {0}) LineRefusal → Plan → Result Plan Cause → Type 0
LineLeaves (Ok _) plan added = added ≡ Ok plan
LineLeaves (Err (line.Fault cause)) plan added = added ≡ Err cause
LineLeaves (Err line.NoMemory) plan added = Unit {0}

-- the same, with the line of the fault
abbrev pub LinesLeave : Result (Unit {0}) ParseRefusal → Plan → Result Plan Fault → Type 0
LinesLeave (Ok _) plan read = read ≡ Ok plan
LinesLeave (Err (text.Fault n cause)) plan read = read ≡ Err (record { line = n; cause = cause })
LinesLeave (Err text.NoMemory) plan read = Unit {0}

-- the plan of a text or its first fault, unless memory ran out
abbrev pub Parses : Result Plan ParseRefusal → Result Plan Fault → Type 0
Parses (Ok plan) read = read ≡ Ok plan
Parses (Err (text.Fault n cause)) read = read ≡ Err (record { line = n; cause = cause })
Parses (Err text.NoMemory) read = Unit {0}
