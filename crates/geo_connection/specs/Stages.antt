-- The handshake: how many bytes are read next, what is sent for them, and what is read behind them.
use Rattle.std.specs.Prelude.{ℕ, List, [], Option, Some, None}
use Rattle.geo_nbd.specs.declared.export.Export.{Export}
use Rattle.geo_nbd.specs.declared.option_head.OptionHead.{OptionHead}
use Rattle.geo_nbd.specs.declared.phase.Agreed.{Agreed}
use Rattle.geo_nbd.specs.declared.phase.Answer.{Answer}
use Rattle.geo_nbd.specs.declared.phase.Phase.{Phase}
use Rattle.geo_nbd.specs.declared.phase.Phase.TheVariants as phases
use Rattle.geo_nbd.specs.Handshake.{after_flags, answer, next_option}
use Rattle.geo_connection.specs.declared.stage.Heard.{Heard}
use Rattle.geo_connection.specs.declared.stage.Stage.{Stage}
use Rattle.geo_connection.specs.declared.stage.Stage.TheVariants as stages

-- how many bytes are read next
abbrev pub awaited : Stage → ℕ
awaited stages.Flags = 4
awaited (stages.Head agreed) = 16
awaited (stages.Data agreed head) = head.len
awaited _ = 0

-- where a phase begins
abbrev pub stage_of : Phase → Stage
stage_of phases.Flags = stages.Flags
stage_of (phases.Options agreed) = stages.Head agreed
stage_of (phases.Serving export structured) = stages.Serving export structured
stage_of phases.Ended = stages.Ended

-- nothing is sent
abbrev pub silent : Stage → Heard
silent next = record { sent = []; next = next }

-- behind the head of an option comes its data; one that isn't answered ends the session
abbrev pub headed : Agreed → Option OptionHead → Stage
headed agreed (Some head) = stages.Data agreed head
headed agreed None = stages.Ended

-- an option is answered
abbrev pub told : Answer → Heard
told a = record { sent = a.sent; next = stage_of a.next }

-- what is sent for the bytes that were read, and what is read next
abbrev pub hear : List Export → Stage → List ℕ → Heard
hear exports stages.Flags bytes = silent (stage_of (after_flags bytes))
hear exports (stages.Head agreed) bytes = silent (headed agreed (next_option bytes))
hear exports (stages.Data agreed head) bytes = told (answer exports agreed head.option bytes)
hear exports (stages.Serving export structured) bytes = silent (stages.Serving export structured)
hear exports stages.Ended bytes = silent stages.Ended
