-- A turn of a client.
use Rattle.std.specs.Prelude.{◌≡◌, ℕ, Bool, true, false, List, Option, Some, None, IfSome, IsSomeAnd}
use Rattle.std.specs.Option.{option_map}
use Rattle.atomic_table.specs.Seated.{TableId}
use Rattle.geo_model.specs.declared.step.Entry.{Entry}
use Rattle.geo_model.specs.declared.step.Found.{Found}
use Rattle.geo_model.specs.declared.step.Found.TheVariants as founds
use Rattle.geo_model.specs.declared.step.Outcome.{Outcome}
use Rattle.geo_model.specs.declared.step.Outcome.TheVariants as outcomes
use Rattle.geo_model.specs.declared.step.Reply.TheVariants as replies
use Rattle.geo_model.specs.declared.step.Step.TheVariants as steps
use Rattle.geo_model.specs.World.{World}
use Rattle.geo_model.specs.FixedOrder.{FoundFull, HasFinished, IsWait, WasIdle}
use Rattle.geo_model.specs.History.{next_command}
use Rattle.geo_model.specs.Log.{replay}
use Rattle.geo_jobs.specs.declared.lanes.Lanes.{Lanes}
use Rattle.geo_jobs.specs.declared.turn.Turn.{Turn}
use Rattle.geo_jobs.specs.declared.turn.Turn.TheVariants as turns
use Rattle.geo_jobs.specs.Passes.{MeshPass}
use Rattle.geo_jobs.specs.Putting.{PutsAll}
use Rattle.geo_jobs.specs.Ends.{CanShow, PublisherView}
use Rattle.geo_jobs.specs.declared.client.ClientJob.{ClientJob}
use Rattle.geo_jobs.specs.Hints.{go_hints}
use Rattle.geo_jobs.specs.LanePasses.{IsPassTo, MadeOneStep, Rests}

-- it puts into the down lane; and if it shows, it can show what the pass has seen
pub record IsClientJob (lanes : Lanes) (p : MeshPass) (j : ClientJob) : Type 0 where
  pub puts : IsPassTo lanes.down p.own j.down
  pub shows : IfSome j.publisher (λ v. CanShow v p)

-- which view a client shows, if it shows one
abbrev pub view_shown : ClientJob → Option TableId
view_shown j = option_map (λ (v : PublisherView). v.view) j.publisher

-- whether what was found is that no command is left
abbrev pub is_end : Found → Bool
is_end founds.NoSuchActor = true
is_end founds.NoCommand = true
is_end _ = false

-- the line of the last command that was made
abbrev pub line_after : ℕ → Outcome → ℕ
line_after line (outcomes.Replied next reply) = next
line_after line (outcomes.Accepted next bio) = next
line_after line _ = line

-- the outcome of a command was noted, and the tickets that it names were put
pub record NotesOutcome (outcome : Outcome) (a b : ClientJob) : Type 0 where
  pub actor : b.actor ≡ a.actor
  pub line : b.line ≡ line_after a.line outcome
  pub puts : PutsAll a.down (go_hints outcome) b.down

-- of which entries the mesh is shown after an outcome: a listing is shown as of all that the pass has seen, and nothing
-- else is shown
abbrev pub stands_after : Outcome → List Entry → List Entry → List Entry
stands_after (outcomes.Replied line (replies.Listing lines)) seen stood = seen
stands_after _ seen stood = stood

-- by the same view this was shown, and nothing else
pub record Showed (outcome : Outcome) (seen : List Entry) (a b : PublisherView) : Type 0 where
  pub view : b.view ≡ a.view
  pub of : b.of ≡ a.of
  pub stands : b.stands ≡ stands_after outcome seen a.stands

-- a client that shows showed the outcome, if it is a listing; another one still doesn't show
abbrev pub ShowsOutcome : Outcome → List Entry → Option PublisherView → Option PublisherView → Type 0
ShowsOutcome outcome seen None b = b ≡ None
ShowsOutcome outcome seen (Some a) b = IsSomeAnd b (Showed outcome seen a)

-- the next command of the client's actor was made
pub record ClientWorked (p q : MeshPass) (a b : ClientJob) : Type 0 where
  pub outcome : Outcome
  pub adds : MadeOneStep p q (steps.Go a.actor) outcome
  pub noted : NotesOutcome outcome a b
  pub shown : ShowsOutcome outcome q.seen a.publisher b.publisher

-- at what the pass has seen the actor's next command is a sync or a settle, and what that waits for isn't over
pub record IsWaiting (opened : World) (q : MeshPass) (actor : ℕ) : Type 0 where
  pub was_idle : WasIdle opened q.seen q.number (steps.Go actor)
  pub waits : IsSomeAnd (next_command (replay opened q.seen) actor) (λ c. IsWait c.command)

-- what a turn did, by its answer
abbrev pub DidClient : World → MeshPass → MeshPass → ClientJob → ClientJob → Turn → Type 0
DidClient opened p q a b turns.Worked = ClientWorked p q a b
DidClient opened p q a b turns.Idle = Rests p q a b × IsWaiting opened q a.actor
DidClient opened p q a b turns.Finished = Rests p q a b × HasFinished opened q.seen a.actor
DidClient opened p q a b turns.LogFull = Rests p q a b × FoundFull opened q.seen q.number (steps.Go a.actor)
DidClient opened p q a b turns.NoMemory = Rests p q a b
