-- A plan that is written as a script is read back.
use Rattle.std.specs.Prelude.{◌≡◌, ℕ, ◌+◌, ◌<◌, ◌≤◌, List, [], ◌∷◌, length, All, Ok, ⊤}
use Rattle.geo_base.specs.declared.limits.TheConstants.{MAX_LINE_BYTES, MAX_WRITE_LINE_BYTES}
use Rattle.geo_model.specs.declared.command.Command.{Command}
use Rattle.geo_model.specs.declared.command.Command.TheVariants as commands
use Rattle.geo_model.specs.declared.command.LineCommand.{LineCommand}
use Rattle.geo_model.specs.Plans.{IsPlan}
use Rattle.geo_model.specs.Script.{script}
use Rattle.geo_model.specs.World.{Plan}
use Rattle.geo_laws_scripts.specs.PlanTexts.{command_line, plan_text}

-- the first command, if there is one, stands behind so many lines
abbrev pub StandsBehind : ℕ → List LineCommand → Type 0
StandsBehind header [] = ⊤
StandsBehind header (c ∷ cs) = header < c.line

-- the commands stand behind the header, which has one line for each disk and each actor
abbrev pub HeaderFits : Plan → Type 0
HeaderFits plan = StandsBehind (length plan.disks + length plan.actors) plan.commands

-- a line of so many bytes has room for the command: only a `write`, a `concat` and a `stripe` can be too long
abbrev pub LineHasRoom : Command → ℕ → Type 0
LineHasRoom (commands.Write h off bytes) len = len ≤ MAX_WRITE_LINE_BYTES
LineHasRoom (commands.Concat name provs) len = len ≤ MAX_LINE_BYTES
LineHasRoom (commands.Stripe name stripe provs) len = len ≤ MAX_LINE_BYTES
LineHasRoom _ len = ⊤

-- no command's line is longer than a script's may be
abbrev pub LinesFit : Plan → Type 0
LinesFit plan = All (λ c. LineHasRoom c.command (length (command_line plan.actors c))) plan.commands

-- a plan whose text has room for its header and its commands is read from that text
abbrev pub PlansAreRead : Type 0
PlansAreRead = (plan : Plan) → IsPlan plan → HeaderFits plan → LinesFit plan → script (plan_text plan) ≡ Ok plan

-- and no other plan is read from its text: the room is just what is wanted
abbrev pub ReadPlansHaveRoom : Type 0
ReadPlansHaveRoom =
    (plan : Plan) → IsPlan plan → script (plan_text plan) ≡ Ok plan → HeaderFits plan × LinesFit plan
