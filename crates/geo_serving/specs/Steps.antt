-- The steps of a session: what is read at each, what is written, and where it leads.
--
-- A request is read as a head and what comes behind it. Bytes are written at two steps alone: what the handshake
-- answers to a message, and what a turn says, which is the reply to a request (TurnsBy, MeetsAs in geo_connection).
use Rattle.std.specs.Prelude.{◌≡◌, ℕ, List, [], length, Option, Some, None, Result}
use Rattle.geo_connection.specs.declared.meeting.Met.{Met}
use Rattle.geo_connection.specs.declared.stage.Stage.{Stage}
use Rattle.geo_connection.specs.declared.stage.Stage.TheVariants as stages
use Rattle.geo_connection.specs.declared.turn.Turn.{Turn}
use Rattle.geo_connection.specs.declared.turn.Turn.TheVariants as turns
use Rattle.geo_connection.specs.Stages.{awaited, hear}
use Rattle.geo_connection.specs.Turns as calls
use Rattle.geo_model.specs.declared.step.DeviceResult.{DeviceResult}
use Rattle.geo_model.specs.declared.step.Found.{Found}
use Rattle.geo_nbd.specs.declared.numbers.TheConstants.{GREETING}
use Rattle.geo_nbd.specs.declared.request.Request.{Request}
use Rattle.geo_nbd.specs.Messages.{request_of}
use Rattle.geo_server.specs.declared.service.Begun.{Begun}
use Rattle.geo_server.specs.Judging.{data_len, judge}
use Rattle.geo_server.specs.Service.{ServiceView}
use Rattle.geo_tags.specs.Calls.{Delivers}
use Rattle.geo_tags.specs.Tags.{TaggedView}
use Rattle.geo_serving.specs.declared.client.Client.{Client}
use Rattle.geo_serving.specs.Points.{Point, greets, hears, awaits, follows, does, over, headed, met_doing, point_of, talk_of, talk_point}

-- the same client with other requests that are out
abbrev pub with_service : Client → ServiceView → Client
with_service client service = record client { service = service }

-- A request

-- it came with these bytes, and by its head it ends the session, is replied to, or begins
pub record Meets (client : Client) (mesh : TaggedView) (r : Request) (bytes : List ℕ) (next : Point) : Type 0 where
  pub met : Met
  pub service : ServiceView
  pub meets : calls.MeetsAs met (judge client.size r) client.service service r bytes
  pub leads : next ≡ point_of (with_service client service) mesh (met_doing met)

-- by how many bytes come behind its head; where those are too many, the session ends and none is read
abbrev pub ComesWith : Option ℕ → Client → TaggedView → Request → List ℕ → Point → Type 0
ComesWith None client mesh r read next = (read ≡ []) × (next ≡ over)
ComesWith (Some count) client mesh r read next = (length read ≡ count) × Meets client mesh r read next

-- Turns

-- its command was given to the mesh
pub record GivesOn (b : Begun) (client : Client) (mesh : TaggedView) (next : Point) : Type 0 where
  pub turn : Turn
  pub service : ServiceView
  pub after : TaggedView
  pub gives : calls.Gives turn client.service service mesh after b
  pub leads : next ≡ does (with_service client service) after turn

-- a disk answered for a bio, and the mesh was given its answer
pub record Answered (bio : ℕ) (mesh after : TaggedView) : Type 0 where
  pub got : DeviceResult
  pub taken : Result (Unit {0}) Found
  pub delivers : Delivers taken mesh after bio got

pub record AnswersFor (bio : ℕ) (client : Client) (mesh : TaggedView) (next : Point) : Type 0 where
  pub after : TaggedView
  pub answered : Answered bio mesh after
  pub leads : next ≡ does client after turns.Moved

-- the step of the mesh that is due was made
pub record GoesOn (client : Client) (mesh : TaggedView) (next : Point) : Type 0 where
  pub turn : Turn
  pub service : ServiceView
  pub after : TaggedView
  pub goes : calls.Goes turn client.service service mesh after
  pub leads : next ≡ does (with_service client service) after turn

-- what is done at a turn, and what is written there
abbrev pub Turns : Turn → Client → TaggedView → List ℕ → Point → Type 0
Turns (turns.Gives b) client mesh said next = (said ≡ []) × GivesOn b client mesh next
Turns (turns.Says sent) client mesh said next = (said ≡ sent) × (next ≡ does client mesh turns.Moved)
Turns (turns.Asks disk bio request) client mesh said next = (said ≡ []) × AnswersFor bio client mesh next
Turns turns.Moved client mesh said next = (said ≡ []) × GoesOn client mesh next
Turns turns.Idle client mesh said next = (said ≡ []) × (next ≡ awaits client mesh)

-- All steps

abbrev pub Step : Point → List ℕ → List ℕ → Point → Type 0
Step (greets exports mesh) read said next =
    (read ≡ []) × (said ≡ GREETING) × (next ≡ hears exports stages.Flags mesh)
Step (hears exports stage mesh) read said next =
    (length read ≡ awaited stage) × (said ≡ (hear exports stage read).sent)
    × (next ≡ talk_point exports mesh (talk_of (hear exports stage read).next))
Step (awaits client mesh) read said next =
    (length read ≡ 28) × (said ≡ []) × (next ≡ point_of client mesh (headed (request_of read)))
Step (follows client mesh r) read said next = (said ≡ []) × ComesWith (data_len r) client mesh r read next
Step (does client mesh turn) read said next = (read ≡ []) × Turns turn client mesh said next
Step over read said next = (read ≡ []) × (said ≡ []) × (next ≡ over)

-- how many bytes are read at the next step
abbrev pub count_of : Option ℕ → ℕ
count_of None = 0
count_of (Some count) = count

abbrev pub awaited_at : Point → ℕ
awaited_at (hears exports stage mesh) = awaited stage
awaited_at (awaits client mesh) = 28
awaited_at (follows client mesh r) = count_of (data_len r)
awaited_at _ = 0
