-- What is decided of a command before it is made.
use Rattle.std.specs.Prelude.{◌≡◌, ℕ, ◌+◌, ◌-◌, Bool, true, false, not, List, length, Option, Some, None, if◌then◌else◌}
use Rattle.std.specs.Option.{option_map_or}
use Rattle.geo_model.specs.declared.command.Command.{Command}
use Rattle.geo_model.specs.declared.command.Command.TheVariants as commands
use Rattle.geo_model.specs.declared.command.LineCommand.{LineCommand}
use Rattle.geo_model.specs.declared.step.Entry.{Entry}
use Rattle.geo_model.specs.Topology.{find_provider}
use Rattle.geo_model.specs.World.{World, Handle, handle_of, is_active, is_busy}
use Rattle.geo_access.specs.Access.{consumers_below}
use Rattle.geo_state.specs.Traffic.{count_in}
use Rattle.geo_state.specs.declared.state.State.{State}
use Rattle.geo_state.specs.World.{world}
use Rattle.geo_moves.specs.Handles.{refusal_in}
use Rattle.geo_moves.specs.declared.decisions.Decision.{Decision}
use Rattle.geo_moves.specs.declared.decisions.Decision.TheVariants.{Opens, Closes, Other}

-- whether a close of the handle, if there is one, is answered ok: no request is out through it
abbrev pub is_closed : World → Option Handle → Bool
is_closed w h = option_map_or (λ x. not (option_map_or (is_active w) x.consumer false)) h false

-- what is decided of the command of an actor
abbrev pub decision_of : World → ℕ → Command → Decision
decision_of w actor (commands.Open name prov grant) = Opens (refusal_in w actor name prov grant)
decision_of w actor (commands.Close name) = if is_closed w (handle_of w actor name) then Closes else Other
decision_of w actor _ = Other

-- that is what is decided, whatever commands are left and whatever the log has
abbrev pub IsDecided : State → ℕ → Command → Decision → Type 0
IsDecided s actor command decision =
    (actors : List (List LineCommand)) (log : List Entry) → decision ≡ decision_of (world actors log s) actor command

-- how many counts are computed anew at most to decide of a command
abbrev pub deciding_steps : State → Command → ℕ
deciding_steps s (commands.Open name prov grant) =
    option_map_or (consumers_below s.topo.topology) (find_provider s.topo.topology prov) 0
deciding_steps s _ = 0

-- how many places of the log are owed: one for the close of each handle, one for the Deliver of each Busy bio
abbrev pub places_owed : State → ℕ
places_owed s = length s.handles.handles + count_in is_busy s.traffic.bios

-- how many are owed after what was decided, where so many are before
abbrev pub owed_by : ℕ → Decision → ℕ
owed_by n (Opens None) = n + 1
owed_by n (Opens (Some e)) = n
owed_by n Closes = n - 1
owed_by n Other = n

-- whether a command is one on geoms, or writes a record
abbrev pub is_on_geoms : Command → Bool
is_on_geoms (commands.Open name prov grant) = false
is_on_geoms (commands.Close name) = false
is_on_geoms (commands.Read name offset len) = false
is_on_geoms (commands.Write name offset bytes) = false
is_on_geoms (commands.Delete name offset len) = false
is_on_geoms (commands.Flush name) = false
is_on_geoms commands.Sync = false
is_on_geoms commands.Settle = false
is_on_geoms commands.Mesh = false
is_on_geoms _ = true

-- whether a command writes a record
abbrev pub writes_record : Command → Bool
writes_record (commands.Label name label) = true
writes_record (commands.Relabel name label) = true
writes_record (commands.MarkConcat name label id place count) = true
writes_record (commands.MarkStripe name label id place count stripe) = true
writes_record _ = false
