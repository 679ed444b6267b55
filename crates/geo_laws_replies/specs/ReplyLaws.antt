-- How often a line is unanswered, and that each command has its reply where a log comes to rest.
use Rattle.std.specs.Prelude.{◌≡◌, ℕ, ◌+◌, ◌==◌, Bool, false, List, sum_by, Ok, cond}
use Rattle.geo_model.specs.declared.command.LineCommand.{LineCommand}
use Rattle.geo_model.specs.declared.step.Entry.{Entry}
use Rattle.geo_model.specs.declared.step.Outcome.{Outcome}
use Rattle.geo_model.specs.declared.step.Owner.{Owner}
use Rattle.geo_model.specs.declared.step.Owner.TheVariants as owners
use Rattle.geo_model.specs.declared.step.Step.{Step}
use Rattle.geo_model.specs.World.{World, Plan, Bio}
use Rattle.geo_model.specs.Opening.{opening}
use Rattle.geo_model.specs.Plans.{IsPlan, FactsFit}
use Rattle.geo_model.specs.Step.{step}
use Rattle.geo_model.specs.Log.{Legal, replay}
use Rattle.geo_model.specs.Order.{Rest}
use Rattle.geo_model.specs.Fitting.{Firm}
use Rattle.geo_headline.specs.Replies.{is_reply_for, EachCommandHasItsReply}

-- whether a request is of the line
abbrev pub is_of_line : ℕ → Owner → Bool
is_of_line line (owners.Line handle l) = l == line
is_of_line line _ = false

-- a command counts where it stands in the line, and a request where the line made it
abbrev pub counts_command : ℕ → LineCommand → ℕ
counts_command line c = cond (c.line == line) 1 0

abbrev pub counts_bio : ℕ → Bio → ℕ
counts_bio line x = cond (is_of_line line x.owner) 1 0

-- the commands of the line among those that each actor has left
abbrev pub left_of_line : ℕ → List (List LineCommand) → ℕ
left_of_line line actors = sum_by (λ rest. sum_by (counts_command line) rest) actors

-- how often the line is unanswered: its commands that are left, and its requests that are on their way
abbrev pub unanswered : ℕ → World → ℕ
unanswered line w = left_of_line line w.actors + sum_by (counts_bio line) w.bios

-- an outcome counts where it is a reply to the line
abbrev pub counts_reply : ℕ → Outcome → ℕ
counts_reply line o = cond (is_reply_for line o) 1 0

-- each step takes the replies that it makes from what is unanswered
abbrev pub StepsAnswer : Type 0
StepsAnswer =
    (line : ℕ) (w : World) (seat : ℕ) (s : Step) (after : World) (o : Outcome) → Firm w
    → step w seat s ≡ Ok (after, o) → unanswered line after + counts_reply line o ≡ unanswered line w

-- where a legal log comes to rest, each command of the plan has its reply
abbrev pub RestAnswersEachCommand : Type 0
RestAnswersEachCommand =
    (plan : Plan) (facts : List (ℕ × ℕ)) → IsPlan plan → FactsFit plan facts
    → (log : List Entry) → Legal (opening plan facts) log → Rest (replay (opening plan facts) log)
    → EachCommandHasItsReply plan log
