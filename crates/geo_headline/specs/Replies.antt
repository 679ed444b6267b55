-- Replies: each command has one.
use Rattle.std.specs.Prelude.{◌≡◌, ℕ, ◌==◌, Bool, false, List, count_by, All}
use Rattle.geo_model.specs.declared.step.Entry.{Entry}
use Rattle.geo_model.specs.declared.step.Outcome.{Outcome}
use Rattle.geo_model.specs.declared.step.Outcome.TheVariants as outcomes
use Rattle.geo_model.specs.World.{Plan}

-- whether an outcome is a reply to the line
abbrev pub is_reply_for : ℕ → Outcome → Bool
is_reply_for line (outcomes.Replied l reply) = l == line
is_reply_for line _ = false

-- how many replies a log has for the line
abbrev pub replies_for : ℕ → List Entry → ℕ
replies_for line log = count_by (λ e. is_reply_for line e.outcome) log

-- how many commands of the plan stand in the line
abbrev pub commands_at : ℕ → Plan → ℕ
commands_at line plan = count_by (λ c. c.line == line) plan.commands

-- the line of each command has exactly one reply, and no line has a reply more than it has commands
pub record EachCommandHasItsReply (plan : Plan) (log : List Entry) : Type 0 where
  pub once : All (λ c. replies_for c.line log ≡ 1) plan.commands
  pub no_other : (line : ℕ) → replies_for line log ≡ commands_at line plan
