-- What open, close and the requests answer and do (g_access(9), g_bio(9)).
use Rattle.std.specs.Prelude.{ℕ, ◌+◌, ◌-◌, ◌==◌, false, not, List, [], ◌∷◌, ◌++◌, filter, Option, Some, None, is_some, unwrap_or, option_and_then, if◌then◌else◌}
use Rattle.std.specs.Option.{option_map_or}
use Rattle.geo_base.specs.declared.request.BioCmd.TheVariants as cmds
use Rattle.geo_base.specs.declared.request.Counts.{Counts}
use Rattle.geo_base.specs.declared.errno.Errno.{Errno}
use Rattle.geo_base.specs.declared.errno.Errno.TheVariants.{EEXIST, EBADF, EBUSY}
use Rattle.geo_model.specs.declared.step.Outcome.{Outcome}
use Rattle.geo_model.specs.declared.step.Outcome.TheVariants as outcomes
use Rattle.geo_model.specs.declared.step.Owner.TheVariants as owners
use Rattle.geo_model.specs.declared.step.Reply.TheVariants as replies
use Rattle.geo_model.specs.Topology.{Provider, find_provider, add_consumer, remove_consumer}
use Rattle.geo_model.specs.Opens.{open_refusal}
use Rattle.geo_model.specs.World.{World, Handle, granted_in, handle_of, is_active}
use Rattle.geo_model.specs.Bios.{submit}
use Rattle.geo_model.specs.WorldEvents.{after_open, after_close}
use Rattle.geo_model.specs.Requests.{Asking, request_refusal, provider_of_handle}

-- Answers

-- the command of a line is refused, in the world that is left then
abbrev pub refused : World → ℕ → Errno → World × Outcome
refused w line e = (w, outcomes.Replied line (replies.Refused e))

-- the command of a line is done
abbrev pub done : World → ℕ → World × Outcome
done w line = (w, outcomes.Replied line replies.Ok)

-- refused where there is an error, else done with this world
abbrev pub answer : World → ℕ → Option Errno → World → World × Outcome
answer w line None after = done after line
answer w line (Some e) after = refused w line e

-- open

-- the world with a new handle, whose consumer is attached to the provider
abbrev pub with_handle : World → ℕ → List ℕ → ℕ → Counts → World
with_handle w actor name p grant = record w {
  topology = add_consumer w.topology 1 (Some p);
  handles = w.handles ++ record {
    number = w.next_handle;
    actor = actor;
    name = name;
    consumer = Some w.topology.next_consumer;
    grant = grant;
    dead = false;
  } ∷ [];
  next_handle = w.next_handle + 1;
}

-- an open that is refused after its provider was found uses up one consumer number
abbrev pub without_number : World → World
without_number w = record w { topology = record w.topology { next_consumer = w.topology.next_consumer + 1 } }

abbrev pub open_answered : World → ℕ → ℕ → List ℕ → Option ℕ → Counts → Option Errno → World × Outcome
open_answered w line actor name None grant e = answer w line e w
open_answered w line actor name (Some p) grant None = done (after_open w (with_handle w actor name p grant)) line
open_answered w line actor name (Some p) grant (Some e) = refused (without_number w) line e

abbrev pub do_open : World → ℕ → ℕ → List ℕ → List ℕ → Counts → World × Outcome
do_open w line actor name prov grant =
    if is_some (handle_of w actor name)
    then refused w line EEXIST
    else open_answered w line actor name (find_provider w.topology prov) grant
    (open_refusal (granted_in w) w.topology prov grant)

-- close

-- the world without a handle and its consumer
abbrev pub without_handle : World → Handle → World
without_handle w h = record w {
  topology = option_map_or (remove_consumer w.topology) h.consumer w.topology;
  handles = filter (λ x. not (x.number == h.number)) w.handles;
}

abbrev pub close_handle : World → ℕ → Option Handle → World × Outcome
close_handle w line None = refused w line EBADF
close_handle w line (Some h) =
    if option_map_or (is_active w) h.consumer false
    then refused w line EBUSY
    else done (after_close w (without_handle w h)) line

-- requests

-- an accepted request is a bio from the handle's consumer to its provider; the zeros stand for a handle without one,
-- which is never accepted
abbrev pub accept_request : World → ℕ → Handle → Asking → World × Outcome
accept_request w line h a = (
  submit w a.cmd a.offset a.len a.bytes
      (unwrap_or h.consumer 0)
      (option_map_or (λ p. p.number) (provider_of_handle w h) 0)
      (owners.Line h.number line),
  outcomes.Accepted line w.next_bio,
)

abbrev pub request_answered : World → ℕ → Option Handle → Asking → Option Errno → World × Outcome
request_answered w line h a (Some e) = refused w line e
request_answered w line None a None = refused w line EBADF
request_answered w line (Some h) a None = accept_request w line h a

abbrev pub do_request : World → ℕ → Option Handle → Asking → World × Outcome
do_request w line h a = request_answered w line h a (request_refusal w h a)

-- a WRITE of a record at the last sector of the handle's provider
abbrev pub record_request : World → Option Handle → (Provider → List ℕ) → Asking
record_request w h sector_of =
    option_map_or
    (λ p. record { cmd = cmds.Write; offset = p.size - p.sector; len = p.sector; bytes = sector_of p })
    (option_and_then (provider_of_handle w) h)
    (record { cmd = cmds.Write; offset = 0; len = 0; bytes = [] })
