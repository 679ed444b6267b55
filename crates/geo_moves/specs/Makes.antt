-- A geom that comes with a provider of its: what it changes of a state.
use Rattle.std.specs.Prelude.{◌≡◌, ℕ, ◌+◌, ◌*◌, ◌≤◌, List, length}
use Rattle.geo_model.specs.declared.command.LineCommand.{LineCommand}
use Rattle.geo_model.specs.declared.step.Entry.{Entry}
use Rattle.geo_model.specs.WorldEvents.{with_queued}
use Rattle.geo_moves.specs.Offer.{Offer}
use Rattle.geo_moves.specs.NewGeom.{NewGeom}
use Rattle.geo_moves.specs.Making.{QueuedMesh, AreBoth, both, queued, with_built}
use Rattle.geo_state.specs.declared.state.State.{State}
use Rattle.geo_state.specs.World.{world}

-- the mesh and the events with the geom over some providers, and its provider
abbrev pub built : State → NewGeom → List ℕ → Offer → QueuedMesh
built s geom below x = with_built (both s.topo s.queue) geom.kind geom.name geom.config below x.name x.size x.sector

-- it came with its provider, which is counted, and the queue has room for all that is owed then
pub record HasGrown (old new : State) (geom : NewGeom) (below : List ℕ) (x : Offer) : Type 0 where
  pub made : AreBoth new.topo new.queue (built old geom below x)
  pub room : 2 * length old.topo.topology.providers + 2 ≤ new.queue.spare
  pub rest : new ≡ record old { topo = new.topo; queue = new.queue; providers = old.providers + 1 }

-- the world got the geom and its provider, whatever commands are left and whatever the log has
abbrev pub IsBuilt : State → State → NewGeom → List ℕ → Offer → Type 0
IsBuilt old new geom below x =
    (actors : List (List LineCommand)) (log : List Entry)
    → world actors log new ≡ with_queued (world actors log old) (queued (built old geom below x))
