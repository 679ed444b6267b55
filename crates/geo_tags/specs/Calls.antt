-- What each call answers, and what it leaves.
use Rattle.std.specs.Prelude.{◌≡◌, ◌<◌, ◌^◌, ℕ, Bool, true, false, Option, Some, None, Result, Ok, Err, IsSome, ⊤}
use Rattle.geo_base.specs.declared.block.NoMemory.{NoMemory}
use Rattle.geo_model.specs.declared.command.Command.{Command}
use Rattle.geo_model.specs.declared.command.LineCommand.{LineCommand}
use Rattle.geo_model.specs.declared.step.DeviceResult.{DeviceResult}
use Rattle.geo_model.specs.declared.step.Found.{Found}
use Rattle.geo_model.specs.declared.step.Outcome.{Outcome}
use Rattle.geo_model.specs.declared.step.Outcome.TheVariants as outcomes
use Rattle.geo_model.specs.declared.step.Reply.{Reply}
use Rattle.geo_model.specs.declared.step.Step.{Step}
use Rattle.geo_model.specs.declared.step.Step.TheVariants as steps
use Rattle.geo_model.specs.Laws.{ClosesOk}
use Rattle.geo_model.specs.Order.{pick}
use Rattle.geo_model.specs.Step.{step}
use Rattle.geo_session.specs.declared.refusal.SessionRefusal.{SessionRefusal}
use Rattle.geo_session.specs.declared.refusal.SessionRefusal.TheVariants as refusals
use Rattle.geo_session.specs.Generation.{is_of_graph}
use Rattle.geo_session.specs.Growth.{with_command}
use Rattle.geo_session.specs.Session.{Answers, Commands}
use Rattle.geo_tags.specs.declared.due.Due.{Due}
use Rattle.geo_tags.specs.declared.due.Due.TheVariants as dues
use Rattle.geo_tags.specs.Tags.{TaggedView, token_at, Turns, SameTokens}

-- a command as it is submitted: its line is the next tag
abbrev pub tagged : TaggedView → ℕ → Command → LineCommand
tagged v actor command = record { line = v.next_tag; actor = actor; command = command }

-- a command that is replied to at once leaves all tokens; where it is a request that is on its way the next tag has its
-- token. One that isn't made leaves all as before: the session refuses it so, or memory or a tag was wanting
abbrev pub Submits : Result (Option Reply) SessionRefusal → TaggedView → TaggedView → ℕ → Command → ℕ → Type 0
Submits (Ok (Some reply)) old new actor command token =
    Commands (Ok (outcomes.Replied old.next_tag reply)) old.session new.session (tagged old actor command)
    × SameTokens old new
Submits (Ok None) old new actor command token =
    (bio : ℕ) × Commands (Ok (outcomes.Accepted old.next_tag bio)) old.session new.session (tagged old actor command)
    × Turns old new old.next_tag (Some token)
Submits (Err (refusals.NotEnabled found)) old new actor command token =
    Commands (Err (refusals.NotEnabled found)) old.session new.session (tagged old actor command) × (new ≡ old)
Submits (Err refusals.NoMemory) old new actor command token = new ≡ old

-- there is a next tag, and the command is a close that is answered ok: it is never refused
pub record SurelyCloses (v : TaggedView) (actor : ℕ) (command : Command) : Type 0 where
  pub fits : v.next_tag < 2 ^ 32
  pub closes : ClosesOk (with_command (tagged v actor command) (v.session).world) 0 actor

-- neither asks a disk nor replies
abbrev pub StaysInside : Outcome → Type 0
StaysInside (outcomes.Asked request) = ⊥
StaysInside (outcomes.Replied line reply) = ⊥
StaysInside _ = ⊤

-- what is due after a step with this outcome: a disk is asked what a Take asks it; a reply to a tag is handed out with
-- the tag's token, which it then has no more
abbrev pub IsDueBy : Due → Step → Outcome → TaggedView → TaggedView → Type 0
IsDueBy (dues.Ask disk bio request) s outcome old new =
    (s ≡ steps.Take disk bio) × (outcome ≡ outcomes.Asked request) × SameTokens old new
IsDueBy (dues.Reply token reply) s outcome old new =
    (tag : ℕ) × (outcome ≡ outcomes.Replied tag reply) × (token_at old tag ≡ Some token) × Turns old new tag None
IsDueBy dues.Moved s outcome old new = StaysInside outcome × SameTokens old new
IsDueBy (dues.Changed generation) s outcome old new =
    StaysInside outcome × (generation ≡ (new.session).generation) × SameTokens old new
IsDueBy dues.Idle s outcome old new = ⊥

-- the graph may have changed
abbrev pub is_changed : Due → Bool
is_changed (dues.Changed generation) = true
is_changed _ = false

-- the step that is picked was made, and the graph is said to have changed exactly where the step is of the graph
pub record Moves (due : Due) (old new : TaggedView) : Type 0 where
  pub step : Step
  pub picked : pick (old.session).world ≡ Some step
  pub outcome : Outcome
  pub made : Answers (Ok outcome) old.session new.session 0 step
  pub is_due : IsDueBy due step outcome old new
  pub is_told : is_of_graph (old.session).world step outcome ≡ is_changed due

-- it is idle exactly where no step is picked; where memory is wanting for the one that is, all is as before
abbrev pub Nexts : Result Due NoMemory → TaggedView → TaggedView → Type 0
Nexts (Ok dues.Idle) old new = (pick (old.session).world ≡ None) × (new ≡ old)
Nexts (Ok due) old new = Moves due old new
Nexts (Err wanting) old new = IsSome (pick (old.session).world) × (new ≡ old)

-- a disk's answer is delivered, or isn't for what was found
abbrev pub Delivers : Result (Unit {0}) Found → TaggedView → TaggedView → ℕ → DeviceResult → Type 0
Delivers (Ok done) old new bio got =
    Answers (Ok outcomes.Delivered) old.session new.session 0 (steps.Deliver bio got) × SameTokens old new
Delivers (Err found) old new bio got = (step (old.session).world 0 (steps.Deliver bio got) ≡ Err found) × (new ≡ old)
