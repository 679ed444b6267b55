-- What is read of a text that C gives, and why it is refused.
use Rattle.std.specs.Prelude.{◌≡◌, ◌<◌, ◌≤◌, ◌^◌, ℕ, ℤ, List, [], ◌∷◌, Option, Some, None, Ok, Err, length}
use Rattle.geo_model.specs.declared.command.Cause.{Cause}
use Rattle.geo_model.specs.declared.command.LineCommand.{LineCommand}
use Rattle.geo_model.specs.Script.{script}
use Rattle.geo_model.specs.World.{Plan}
use Rattle.geo_exports.specs.declared.codes.TheConstants.{NO_MEMORY, WRONG}
use Rattle.geo_exports.specs.declared.refusal.Refusal.{Refusal}
use Rattle.geo_exports.specs.declared.refusal.Refusal.TheVariants as refusals

-- the number of a refusal
abbrev pub refusal_code : Refusal → ℤ
refusal_code refusals.NoMemory = NO_MEMORY
refusal_code _ = WRONG

-- the line of a fault, and 0 for another refusal
abbrev pub fault_line : Refusal → ℕ
fault_line (refusals.Fault line) = line
fault_line _ = 0

-- a text of fewer than 2^32 bytes is a script with this plan
abbrev pub IsPlanOf : List ℕ → Plan → Type 0
IsPlanOf text plan = (length text < 2 ^ 32) × (script text ≡ Ok plan)

-- why a text isn't read: it is too long, this is the line of its first fault, or memory was wanting
abbrev pub IsUnread : Refusal → List ℕ → Type 0
IsUnread refusals.Long text = 2 ^ 32 ≤ length text
IsUnread (refusals.Fault line) text =
    (length text < 2 ^ 32) × ((cause : Cause) × (script text ≡ Err (record { line = line; cause = cause })))
IsUnread refusals.NoMemory text = length text < 2 ^ 32
IsUnread _ text = ⊥

-- the one command of a plan, if it has one and not several
abbrev pub only_one : List LineCommand → Option LineCommand
only_one (c ∷ []) = Some c
only_one _ = None

-- a text is a script with this command and no other
abbrev pub IsCommandOf : List ℕ → LineCommand → Type 0
IsCommandOf text c = (plan : Plan) × IsPlanOf text plan × (only_one plan.commands ≡ Some c)

-- it is a script with no command, or with several
abbrev pub HasNotOne : List ℕ → Type 0
HasNotOne text = (plan : Plan) × IsPlanOf text plan × (only_one plan.commands ≡ None)

-- why a text isn't a command: it isn't read, or it has not one
abbrev pub IsNoCommand : Refusal → List ℕ → Type 0
IsNoCommand refusals.Commands text = HasNotOne text
IsNoCommand refusal text = IsUnread refusal text
