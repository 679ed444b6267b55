-- Which handles are noted as those that can be reaped, after the one of a consumer is looked at again.
use Rattle.std.specs.Prelude.{ℕ, ◌==◌, Bool, false, ◌&&◌, List, Option, Some, None}
use Rattle.std.specs.Option.{option_map_or}
use Rattle.geo_model.specs.World.{Config, Handle}
use Rattle.geo_slots.specs.Slots.{value_at, with_value}
use Rattle.geo_mesh.specs.Topo.{TopoView}
use Rattle.geo_handles.specs.Handles.{HandlesView, holding_handle}

-- whether nothing is out through the consumer, by what is kept of it
abbrev pub is_idle_now : TopoView Config → ℕ → Bool
is_idle_now t cons = option_map_or (λ n. n == 0) (value_at t.active cons) false

-- the notes with that of a handle as it should be, if there is the handle
abbrev pub renoted : List (ℕ × Bool) → Bool → Option Handle → List (ℕ × Bool)
renoted ready idle None = ready
renoted ready idle (Some h) = with_value ready h.number (h.dead && idle)

abbrev pub refreshed : HandlesView → TopoView Config → ℕ → List (ℕ × Bool)
refreshed v t cons = renoted v.ready (is_idle_now t cons) (holding_handle v.handles cons)
