-- What an outcome has that takes memory: bytes that were read or are to be written, or the mesh as it is printed.
use Rattle.std.specs.Prelude.{◌≡◌, ℕ, Bool, true, false, List, [], ◌∷◌, ◌++◌, Option, Ok, ⊤}
use Rattle.geo_model.specs.declared.command.Command.{Command}
use Rattle.geo_model.specs.declared.command.Command.TheVariants as commands
use Rattle.geo_model.specs.declared.step.Outcome.{Outcome}
use Rattle.geo_model.specs.declared.step.Outcome.TheVariants as outcomes
use Rattle.geo_model.specs.declared.command.LineCommand.{LineCommand}
use Rattle.geo_model.specs.declared.step.Entry.{Entry}
use Rattle.geo_model.specs.declared.step.Owner.{Owner}
use Rattle.geo_model.specs.declared.step.Owner.TheVariants as owners
use Rattle.geo_model.specs.declared.step.Reply.{Reply}
use Rattle.geo_model.specs.declared.step.Reply.TheVariants as replies
use Rattle.geo_model.specs.declared.step.Step.{Step}
use Rattle.geo_model.specs.World.{World, BioOf}
use Rattle.geo_model.specs.Bios.{reply_of_result}
use Rattle.geo_model.specs.Commands.{do_command}
use Rattle.geo_model.specs.Step.{step}
use Rattle.geo_bio.specs.declared.bio.Held.{Held}
use Rattle.geo_bio.specs.Up.{resolved}
use Rattle.geo_state.specs.declared.state.State.{State}
use Rattle.geo_state.specs.World.{world}
use Rattle.geo_core.specs.declared.twin.Spare.{Spare}
use Rattle.geo_core.specs.declared.twin.Spare.TheVariants as spares

-- what the reply has is there once more
abbrev pub HasReply : Reply → Spare → Type 0
HasReply (replies.Bytes bytes) spare = spare ≡ spares.Bytes bytes
HasReply (replies.Listing lines) spare = spare ≡ spares.Lines lines
HasReply _ spare = ⊤

-- what the outcome has is there once more
abbrev pub HasTwin : Outcome → Spare → Type 0
HasTwin (outcomes.Replied line reply) spare = HasReply reply spare
HasTwin (outcomes.Asked request) spare = spare ≡ spares.Bytes request.bytes
HasTwin _ spare = ⊤

-- what the reply to the line of a request has, by the request's owner and by what it holds, is there once more
abbrev pub HasReplyOf : (ℕ → Option (List ℕ)) → BioOf Held → Owner → Spare → Type 0
HasReplyOf log x (owners.Line handle line) spare = HasReply (reply_of_result (resolved log x.result)) spare
HasReplyOf log x _ spare = ⊤

-- what the outcome of a step in the world has is there once more
abbrev pub HasOutcome : World → Step → Spare → Type 0
HasOutcome w s spare =
    (seat : ℕ) (after : World) (outcome : Outcome) → step w seat s ≡ Ok (after, outcome) → HasTwin outcome spare

-- what the outcome of a command has is there once more, whatever commands are left and whatever the log has
abbrev pub HasCommand : State → Command → Spare → Type 0
HasCommand s c spare =
    (actors : List (List LineCommand)) (log : List Entry) (line actor : ℕ)
    → HasTwin (do_command (world actors log s) line actor c).1 spare

-- whether the command prints the mesh
abbrev pub prints : Command → Bool
prints commands.Mesh = true
prints _ = false

-- what the reply to a line has once its bio has gone up, is there once more
abbrev pub HasRead : (ℕ → Option (List ℕ)) → BioOf Held → Spare → Type 0
HasRead log x spare = HasReplyOf log x x.owner spare

-- the log has a last entry, and what its outcome has is there once more
abbrev pub EndsWith : List Entry → Spare → Type 0
EndsWith log spare = (entries : List Entry) × (e : Entry) × (log ≡ entries ++ e ∷ []) × HasTwin e.outcome spare
