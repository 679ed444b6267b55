-- What is done for requests when they come, and what becomes of them by what the mesh says.
use Rattle.std.specs.Prelude.{◌≡◌, ℕ, List, Option, Some, None, Result, Ok, Err, ⊤}
use Rattle.geo_base.specs.declared.errno.Errno.TheVariants as errnos
use Rattle.geo_base.specs.declared.request.BioCmd.{BioCmd}
use Rattle.geo_model.specs.declared.step.Reply.{Reply}
use Rattle.geo_model.specs.declared.step.Reply.TheVariants as replies
use Rattle.geo_model.specs.Plans.{IsCommand}
use Rattle.geo_nbd.specs.declared.request.Request.{Request}
use Rattle.geo_server.specs.declared.judging.Judged.{Judged}
use Rattle.geo_server.specs.declared.judging.Judged.TheVariants as judgements
use Rattle.geo_server.specs.declared.service.Begun.{Begun}
use Rattle.geo_server.specs.declared.service.Replied.TheVariants as replied
use Rattle.geo_server.specs.Service.{ServiceView, asked_at, asked_by, BeginsAs, RepliesTo}
use Rattle.geo_server.specs.Serving.{failed}
use Rattle.geo_session.specs.declared.refusal.SessionRefusal.{SessionRefusal}
use Rattle.geo_session.specs.declared.refusal.SessionRefusal.TheVariants as refusals
use Rattle.geo_tags.specs.declared.due.Due.{Due}
use Rattle.geo_tags.specs.declared.due.Due.TheVariants as dues
use Rattle.geo_tags.specs.Calls.{Nexts, Submits}
use Rattle.geo_tags.specs.Tags.{TaggedView}
use Rattle.geo_connection.specs.declared.meeting.Met.{Met}
use Rattle.geo_connection.specs.declared.meeting.Met.TheVariants as mets
use Rattle.geo_connection.specs.declared.turn.Turn.{Turn}
use Rattle.geo_connection.specs.declared.turn.Turn.TheVariants as turns
use Rattle.geo_connection.specs.declared.turn.TheConstants.{ACTOR}

-- Requests that come

-- by the judgement of its head a request ends the session, is replied to with an error, or is out under the next token
abbrev pub MeetsAs : Met → Judged → ServiceView → ServiceView → Request → List ℕ → Type 0
MeetsAs mets.Ends j old new r bytes = (j ≡ judgements.Ends) × (new ≡ old)
MeetsAs (mets.Says sent) j old new r bytes =
    (error : ℕ) × (j ≡ judgements.Fails error) × (sent ≡ failed old.structured r.cookie error) × (new ≡ old)
MeetsAs (mets.Begins b) j old new r bytes =
    (cmd : BioCmd) × (j ≡ judgements.Stands cmd) × BeginsAs b old new (asked_by r cmd bytes)

-- what is to be given to the mesh has the form of a command
abbrev pub IsMet : Met → Type 0
IsMet (mets.Begins b) = IsCommand b.command
IsMet _ = ⊤

-- Turns

abbrev pub IsTurn : Turn → Type 0
IsTurn (turns.Gives b) = IsCommand b.command
IsTurn _ = ⊤

-- the mesh replied under a token: the request that is out under it goes on, or is gone and has its reply
abbrev pub TurnsBy : Turn → ServiceView → ServiceView → ℕ → Reply → Type 0
TurnsBy (turns.Gives b) old new token reply =
    (b.token ≡ token) × RepliesTo (Ok (replied.Goes b.command)) old new token (asked_at old token) reply
TurnsBy (turns.Says sent) old new token reply =
    RepliesTo (Ok (replied.Ends sent)) old new token (asked_at old token) reply
TurnsBy turns.Moved old new token reply = RepliesTo (Ok replied.Unknown) old new token (asked_at old token) reply
TurnsBy _ old new token reply = ⊥

-- by what the mesh said to a command at once
abbrev pub AfterSubmit : Result (Option Reply) SessionRefusal → Turn → ServiceView → ServiceView → ℕ → Type 0
AfterSubmit (Ok None) turn old new token = (turn ≡ turns.Moved) × (new ≡ old)
AfterSubmit (Ok (Some reply)) turn old new token = TurnsBy turn old new token reply
AfterSubmit (Err (refusals.NotEnabled found)) turn old new token =
    TurnsBy turn old new token (replies.Refused errnos.EPERM)
AfterSubmit (Err refusals.NoMemory) turn old new token = ⊥

-- a command was given to the mesh with its token, and nothing else was
pub record Gives (turn : Turn) (old new : ServiceView) (before after : TaggedView) (b : Begun) : Type 0 where
  pub answer : Result (Option Reply) SessionRefusal
  pub submits : Submits answer before after ACTOR b.command b.token
  pub leads : AfterSubmit answer turn old new b.token

-- by what was due in the mesh
abbrev pub AfterStep : Due → Turn → ServiceView → ServiceView → Type 0
AfterStep (dues.Ask disk bio request) turn old new = (turn ≡ turns.Asks disk bio request) × (new ≡ old)
AfterStep (dues.Reply token reply) turn old new = TurnsBy turn old new token reply
AfterStep dues.Moved turn old new = (turn ≡ turns.Moved) × (new ≡ old)
AfterStep (dues.Changed generation) turn old new = (turn ≡ turns.Moved) × (new ≡ old)
AfterStep dues.Idle turn old new = (turn ≡ turns.Idle) × (new ≡ old)

-- the step that was due was made, and nothing else was
pub record Goes (turn : Turn) (old new : ServiceView) (before after : TaggedView) : Type 0 where
  pub due : Due
  pub nexts : Nexts (Ok due) before after
  pub leads : AfterStep due turn old new
