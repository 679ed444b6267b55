-- What a history keeps: a sound mesh at every prefix, opens answered, requests completed once, and only idle things
-- freed.
use Rattle.std.specs.Prelude.{◌≡◌, ◌≢◌, ◌⊎◌, ℕ, ◌≤◌, ◌&&◌, Bool, true, false, List, [], ◌∷◌, count_by, slice_get, Option, Some, None, IsSome, IsSomeAnd, IsTrue, All, Contains, ⊤, option_and_then}
use Rattle.std.specs.List.{list_any}
use Rattle.geo_base.specs.declared.errno.Errno.{Errno}
use Rattle.geo_base.specs.declared.request.Counts.{Counts}
use Rattle.geo_model.specs.declared.command.Command.TheVariants as commands
use Rattle.geo_model.specs.declared.command.LineCommand.{LineCommand}
use Rattle.geo_model.specs.declared.step.BioResult.{BioResult}
use Rattle.geo_model.specs.declared.step.BioResult.TheVariants as results
use Rattle.geo_model.specs.declared.step.Entry.{Entry}
use Rattle.geo_model.specs.declared.step.Outcome.{Outcome}
use Rattle.geo_model.specs.declared.step.Outcome.TheVariants as outcomes
use Rattle.geo_model.specs.declared.step.Reply.{Reply}
use Rattle.geo_model.specs.declared.step.Reply.TheVariants as replies
use Rattle.geo_model.specs.declared.step.Step.{Step}
use Rattle.geo_model.specs.declared.step.Step.TheVariants as steps
use Rattle.geo_model.specs.Topology.{Provider, Consumer, geom_at, provider_at, consumer_at, attached_to}
use Rattle.geo_model.specs.Demand.{want, is_zero}
use Rattle.geo_model.specs.Opens.{open_refusal}
use Rattle.geo_model.specs.World.{World, Handle, granted_in, handle_of, bio_at}
use Rattle.geo_model.specs.Bios.{reply_of_result}
use Rattle.geo_model.specs.Append.{append_refusal}
use Rattle.geo_model.specs.Freeing.{Free}
use Rattle.geo_model.specs.Order.{Rest}
use Rattle.geo_model.specs.Log.{Legal, replay, after_entry, moments, Moment, IsSplitBy, IsPrefixOf}
use Rattle.geo_model.specs.Results.{result_of, Covers, is_up_of}
use Rattle.geo_model.specs.Sound.{Sound}

-- Every prefix

-- the log is legal from the opening, and the mesh is sound after every prefix of it
pub record LegalAndSound (opened : World) (log : List Entry) : Type 0 where
  pub legal : Legal opened log
  pub sound : (earlier : List Entry) → IsPrefixOf earlier log → Sound (replay opened earlier)

-- the mesh is at rest after the whole log
abbrev pub EndsAtRest : World → List Entry → Type 0
EndsAtRest opened log = Rest (replay opened log)

-- a fact about each entry and the world before it
abbrev pub AtEachEntry : World → List Entry → (World → Entry → Type 0) → Type 0
AtEachEntry opened log P = (earlier : List Entry) (e : Entry) → IsSplitBy log earlier e → P (replay opened earlier) e

-- Opens (g_access(9))

-- the command that an actor makes next
abbrev pub first_command : List LineCommand → Option LineCommand
first_command [] = None
first_command (c ∷ rest) = Some c

abbrev pub next_command : World → ℕ → Option LineCommand
next_command w actor = option_and_then first_command (slice_get w.actors actor)

-- ok, or the error
abbrev pub reply_of_refusal : Option Errno → Reply
reply_of_refusal None = replies.Ok
reply_of_refusal (Some e) = replies.Refused e

-- an open under a free handle name is answered by what the mesh forbids
abbrev pub AnswersOpen : World → Entry → Type 0
AnswersOpen w e =
    (actor : ℕ) (c : LineCommand) (name prov : List ℕ) (grant : Counts)
    → e.step ≡ steps.Go actor → next_command w actor ≡ Some c → c.command ≡ commands.Open name prov grant
    → handle_of w actor name ≡ None
    → e.outcome ≡ outcomes.Replied c.line (reply_of_refusal (open_refusal (granted_in w) w.topology prov grant))

abbrev pub OpensAreAnswered : World → List Entry → Type 0
OpensAreAnswered opened log = AtEachEntry opened log AnswersOpen

-- Appends

-- an append is answered by what the mesh forbids
abbrev pub AnswersAppend : World → Entry → Type 0
AnswersAppend w e =
    (actor : ℕ) (c : LineCommand) (name prov : List ℕ)
    → e.step ≡ steps.Go actor → next_command w actor ≡ Some c → c.command ≡ commands.Append name prov
    → e.outcome ≡ outcomes.Replied c.line (reply_of_refusal (append_refusal w name prov))

abbrev pub AppendsAreAnswered : World → List Entry → Type 0
AppendsAreAnswered opened log = AtEachEntry opened log AnswersAppend

-- Requests (g_bio(9))

abbrev pub is_reply : Outcome → Bool
is_reply (outcomes.Replied line reply) = true
is_reply _ = false

-- whether the entry replies to a bio at its Up
abbrev pub is_reply_to : ℕ → Entry → Bool
is_reply_to b e = is_up_of b e.step && is_reply e.outcome

abbrev pub IsSuccess : BioResult → Type 0
IsSuccess (results.Failed e) = ⊥
IsSuccess _ = ⊤

-- the acceptance of a request: the world after it, the line of the script, and the bio that was made
pub record Acceptance : Type 0 where
  pub world : World
  pub line : ℕ
  pub bio : ℕ

-- in the world of its acceptance, a bio went exactly to the sectors of its flat map
abbrev pub CoversFrom : Acceptance → List Moment → Type 0
CoversFrom accepted history =
    IsSomeAnd (bio_at accepted.world accepted.bio) (λ x.
    IsSomeAnd (provider_at accepted.world.topology x.target) (λ p. Covers accepted.world history x p))

-- a reply is to the line that was accepted, and is the bio's result
pub record RepliesWithResult (accepted : Acceptance) (history : List Moment) (line : ℕ) (given : Reply) : Type 0 where
  pub same_line : line ≡ accepted.line
  pub is_result : IsSomeAnd (result_of history accepted.bio) (λ r. given ≡ reply_of_result r)

-- an accepted bio has at most one reply in the log, and that is its result, which if successful covers its range
pub record CompletesOnce (log : List Entry) (history : List Moment) (accepted : Acceptance) : Type 0 where
  pub at_most_once : count_by (is_reply_to accepted.bio) log ≤ 1
  pub reply : (e : Entry) (line : ℕ) (given : Reply)
      → Contains log e → e.step ≡ steps.Up accepted.bio → e.outcome ≡ outcomes.Replied line given
      → RepliesWithResult accepted history line given
  pub covers : IsTrue (list_any (is_reply_to accepted.bio) log)
      → IsSomeAnd (result_of history accepted.bio) (λ r. IsSuccess r → CoversFrom accepted history)

-- each accepted bio completes at most once
abbrev pub RequestsCompleteOnce : World → List Entry → Type 0
RequestsCompleteOnce opened log =
    AtEachEntry opened log (λ w e.
    (line b : ℕ) → e.outcome ≡ outcomes.Accepted line b
    → CompletesOnce log (moments opened log) (record { world = after_entry w e; line = line; bio = b }))

-- each accepted bio is completed
abbrev pub RequestsAreComplete : World → List Entry → Type 0
RequestsAreComplete opened log =
    AtEachEntry opened log (λ w e. (line b : ℕ) → e.outcome ≡ outcomes.Accepted line b
    → count_by (is_reply_to b) log ≡ 1)

-- Freeing (g_wither_geom(9))

-- the step closes the handle by its name, or reaps it
abbrev pub GivesUp : World → Step → Handle → Type 0
GivesUp w (steps.Go actor) h =
    (h.actor ≡ actor) × IsSomeAnd (next_command w actor) (λ c. c.command ≡ commands.Close h.name)
GivesUp w steps.Reap h = h.dead ≡ true
GivesUp w _ h = ⊥

-- the step closes or reaps the handle of the consumer
pub record IsGivenUp (before : World) (e : Entry) (c : Consumer) : Type 0 where
  pub of_dev : c.geom ≡ 1
  pub handle : Handle
  pub held : Contains before.handles handle
  pub its_consumer : handle.consumer ≡ Some c.number
  pub by_step : GivesUp before e.step handle
  pub none_after : All (λ h. h.consumer ≢ Some c.number) (after_entry before e).handles

-- a consumer that goes has no bio from it, and holds no count or is that of a handle which is given up
pub record GoesIdle (before : World) (e : Entry) (c : Consumer) : Type 0 where
  pub no_bio : All (λ x. x.source ≢ c.number) before.bios
  pub closed : IsTrue (is_zero (want (granted_in before) before.topology c)) ⊎ IsGivenUp before e c

-- what a step destroys was closed, detached and idle
pub record FreesOnlyIdle (before : World) (e : Entry) : Type 0 where
  pub consumers : (c : Consumer) → Contains before.topology.consumers c
      → consumer_at (after_entry before e).topology c.number ≡ None → GoesIdle before e c
  pub providers : (p : Provider) → Contains before.topology.providers p
      → provider_at (after_entry before e).topology p.number ≡ None → attached_to before.topology p.number ≡ []
  pub geoms : (g : ℕ) → IsSome (geom_at before.topology g) → geom_at (after_entry before e).topology g ≡ None
      → Free before g

abbrev pub AlwaysFreesOnlyIdle : World → List Entry → Type 0
AlwaysFreesOnlyIdle opened log = AtEachEntry opened log FreesOnlyIdle

-- All of it

-- the facts of a history wherever it is legal, by any seats in any order
pub record KeepsHistory (opened : World) (log : List Entry) : Type 0 where
  pub history : LegalAndSound opened log
  pub opens : OpensAreAnswered opened log
  pub appends : AppendsAreAnswered opened log
  pub requests : RequestsCompleteOnce opened log
  pub freed : AlwaysFreesOnlyIdle opened log

-- what a history adds that came to its end
pub record RanToItsEnd (opened : World) (log : List Entry) : Type 0 where
  pub rest : EndsAtRest opened log
  pub complete : RequestsAreComplete opened log
