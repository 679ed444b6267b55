-- What opens, closes and reaps say of a state (g_access(9)).
use Rattle.std.specs.Prelude.{◌≡◌, ℕ, ◌*◌, ◌≤◌, List, length, Option, Some, is_some, IsSomeAnd, if◌then◌else◌}
use Rattle.std.specs.Option.{option_map_or}
use Rattle.geo_base.specs.declared.request.Counts.{Counts}
use Rattle.geo_base.specs.declared.errno.Errno.{Errno}
use Rattle.geo_base.specs.declared.errno.Errno.TheVariants.{EEXIST}
use Rattle.geo_model.specs.declared.command.LineCommand.{LineCommand}
use Rattle.geo_model.specs.declared.step.Entry.{Entry}
use Rattle.geo_model.specs.Topology.{find_provider}
use Rattle.geo_model.specs.Opens.{open_refusal}
use Rattle.geo_model.specs.World.{World, Handle, granted_in, handle_of}
use Rattle.geo_model.specs.HandleCommands.{without_number}
use Rattle.geo_slots.specs.Slots.{value_at}
use Rattle.geo_handles.specs.Handles.{handle_at}
use Rattle.geo_access.specs.Access.{consumers_below, place_of}
use Rattle.geo_state.specs.declared.state.State.{State}
use Rattle.geo_state.specs.World.{world}

-- Opens

-- what refuses an open, if anything does: the actor has a handle of the name, or what refuses the counts at the
-- provider
abbrev pub refusal_in : World → ℕ → List ℕ → List ℕ → Counts → Option Errno
refusal_in w actor name prov grant =
    if is_some (handle_of w actor name) then Some EEXIST else open_refusal (granted_in w) w.topology prov grant

-- that is what refuses it, whatever commands are left and whatever the log has
abbrev pub IsOpenRefusal : State → ℕ → List ℕ → List ℕ → Counts → Option Errno → Type 0
IsOpenRefusal s actor name prov grant refusal =
    (actors : List (List LineCommand)) (log : List Entry)
    → refusal ≡ refusal_in (world actors log s) actor name prov grant

-- the world after an open that is refused: one that found its provider uses up one consumer number
abbrev pub refused_world : World → ℕ → List ℕ → List ℕ → World
refused_world w actor name prov =
    if is_some (handle_of w actor name)
    then w
    else option_map_or (λ p. without_number w) (find_provider w.topology prov) w

-- there is room for one more handle, and for the events of an open and of all that is owed after it
pub record HasRoom (s : State) : Type 0 where
  pub handles : 1 ≤ s.handles.room
  pub events : 3 * length s.topo.topology.providers ≤ s.queue.spare

-- nothing has changed but the room for more events, handles and parts of the mesh, which is no less in the queue
pub record IsRoomed (old new : State) : Type 0 where
  pub rest : new ≡ record old {
    topo = record old.topo { room = new.topo.room };
    queue = record old.queue { spare = new.queue.spare };
    handles = record old.handles { room = new.handles.room };
  }
  pub spare : old.queue.spare ≤ new.queue.spare

-- Closes and reaps

-- the handle of the number is there and has the consumer, through which nothing is out
abbrev pub IsIdle : State → ℕ → ℕ → Type 0
IsIdle s handle consumer =
    IsSomeAnd (handle_at s.handles.handles handle)
    (λ h. (h.consumer ≡ Some consumer) × (value_at s.topo.active consumer ≡ Some 0))

-- how many counts are computed anew at most where the consumer of a handle goes
abbrev pub counts_computed : State → Option Handle → ℕ
counts_computed s handle =
    option_map_or
    (λ h. option_map_or (λ c. consumers_below s.topo.topology (place_of s.topo.topology c)) h.consumer 0)
    handle 0
