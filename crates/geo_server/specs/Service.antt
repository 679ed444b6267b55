-- The requests of a client that are out, each under a token, which its commands carry.
use Rattle.std.specs.Prelude.{◌≡◌, ◌≢◌, ◌<◌, ◌^◌, ℕ, ◌==◌, Bool, ◌||◌, List, [], Option, Some, None, Result, Ok, Err, IfSome, slice_index_or}
use Rattle.slab.specs.Slab.{Slab}
use Rattle.geo_base.specs.declared.request.BioCmd.{BioCmd}
use Rattle.geo_base.specs.declared.request.BioCmd.TheVariants as cmds
use Rattle.geo_base.specs.declared.block.NoMemory.{NoMemory}
use Rattle.geo_model.specs.declared.command.Command.{Command}
use Rattle.geo_model.specs.declared.step.Reply.{Reply}
use Rattle.geo_model.specs.Plans.{IsCommand, IsShortName}
use Rattle.geo_nbd.specs.declared.request.Request.{Request}
use Rattle.geo_server.specs.declared.asked.Asked.{Asked}
use Rattle.geo_server.specs.declared.further.Further.{Further}
use Rattle.geo_server.specs.declared.further.Further.TheVariants as furthers
use Rattle.geo_server.specs.declared.serving.Going.{Going}
use Rattle.geo_server.specs.declared.serving.Going.TheVariants as goings
use Rattle.geo_server.specs.declared.service.Begun.{Begun}
use Rattle.geo_server.specs.declared.service.Lost.{Lost}
use Rattle.geo_server.specs.declared.service.Replied.{Replied}
use Rattle.geo_server.specs.declared.service.Replied.TheVariants as replied
use Rattle.geo_server.specs.Serving.{go_on, next_command, reply_to}
use Rattle.geo_server.specs.Whole.{IsAsked}

-- what is seen of it: the handle of the mesh that all requests go through, whether replies are structured, the request
-- under each token, and the token of the next one
pub record ServiceView : Type 0 where
  pub handle : List ℕ
  pub structured : Bool
  pub out : List (Option Asked)
  pub next_token : ℕ

abbrev pub service_view : List ℕ → Bool → Slab Asked → ServiceView
service_view handle structured slab = record {
  handle = handle;
  structured = structured;
  out = slab.slots;
  next_token = slab.vacant_key;
}

-- the request under a token
abbrev pub asked_at : ServiceView → ℕ → Option Asked
asked_at v token = slice_index_or v.out token None

-- a command is to be made for each request that is out
abbrev pub AllAsked : ServiceView → Type 0
AllAsked v = (token : ℕ) → IfSome (asked_at v token) IsAsked

pub record IsService (v : ServiceView) : Type 0 where
  pub short : IsShortName v.handle
  pub each : AllAsked v

-- a request as it begins; a flush has no range
abbrev pub len_of : BioCmd → ℕ → ℕ
len_of cmds.Flush len = 0
len_of _ len = len

abbrev pub is_fua : ℕ → Bool
is_fua flags = (flags == 1) || (flags == 3)

abbrev pub asked_by : Request → BioCmd → List ℕ → Asked
asked_by r cmd bytes = record {
  cookie = r.cookie;
  cmd = cmd;
  offset = r.offset;
  len = len_of cmd r.len;
  done = 0;
  fua = is_fua r.flags;
  bytes = bytes;
  got = [];
}

-- a token has this request now, or none, and all else is as it was
pub record Turns (old new : ServiceView) (token : ℕ) (slot : Option Asked) : Type 0 where
  pub here : asked_at new token ≡ slot
  pub others : (other : ℕ) → other ≢ token → asked_at new other ≡ asked_at old other
  pub handle : new.handle ≡ old.handle
  pub structured : new.structured ≡ old.structured

-- a request is out under the next token, and its first command is given; where memory is wanting all is as before
pub record BeginsAs (b : Begun) (old new : ServiceView) (a : Asked) : Type 0 where
  pub token : b.token ≡ old.next_token
  pub command : b.command ≡ next_command old.handle a
  pub is_command : IsCommand b.command
  pub turns : Turns old new old.next_token (Some a)

abbrev pub Begins : Result Begun NoMemory → ServiceView → ServiceView → Asked → Type 0
Begins (Ok b) old new a = BeginsAs b old new a
Begins (Err wanting) old new a = new ≡ old

-- how a request goes further by the mesh's reply: with its next command, or by its own reply
abbrev pub IsFurther : Further → List ℕ → Bool → Going → Type 0
IsFurther (furthers.Goes a command) handle structured going =
    (going ≡ goings.Goes a) × IsAsked a × (command ≡ next_command handle a) × IsCommand command
IsFurther (furthers.Ends sent) handle structured going =
    (a : Asked) × (error : ℕ) × (going ≡ goings.Ends a error) × (sent ≡ reply_to structured a error)

-- the mesh replied to the command of a request
pub record GoesFurther (command : Command) (old new : ServiceView) (token : ℕ) (a : Asked) (reply : Reply) : Type 0 where
  pub next : Asked
  pub goes : go_on a reply ≡ goings.Goes next
  pub command_is : command ≡ next_command old.handle next
  pub is_command : IsCommand command
  pub turns : Turns old new token (Some next)

pub record EndsBy (sent : List ℕ) (old new : ServiceView) (token : ℕ) (a : Asked) (reply : Reply) : Type 0 where
  pub last : Asked
  pub error : ℕ
  pub ends : go_on a reply ≡ goings.Ends last error
  pub sent_is : sent ≡ reply_to old.structured last error
  pub turns : Turns old new token None

-- what a reply of the mesh makes of the request under its token: it goes on under it, or it is gone and has its reply;
-- where memory is wanting it is gone, and its cookie is told
abbrev pub RepliesTo : Result Replied Lost → ServiceView → ServiceView → ℕ → Option Asked → Reply → Type 0
RepliesTo (Ok replied.Unknown) old new token slot reply = (slot ≡ None) × (new ≡ old)
RepliesTo (Ok (replied.Goes command)) old new token slot reply =
    (a : Asked) × (slot ≡ Some a) × GoesFurther command old new token a reply
RepliesTo (Ok (replied.Ends sent)) old new token slot reply =
    (a : Asked) × (slot ≡ Some a) × EndsBy sent old new token a reply
RepliesTo (Err lost) old new token slot reply =
    (a : Asked) × (slot ≡ Some a) × (lost.cookie ≡ a.cookie) × Turns old new token None
