-- What a step of a taste asks of a state, and what it makes of it (geom(4)).
use Rattle.std.specs.Prelude.{◌≡◌, ℕ, ◌/◌, ◌<◌, List, Some, IsSomeAnd}
use Rattle.geo_model.specs.declared.command.LineCommand.{LineCommand}
use Rattle.geo_model.specs.declared.step.Entry.{Entry}
use Rattle.geo_model.specs.Topology.{provider_at}
use Rattle.geo_model.specs.Tasting.{submit_read}
use Rattle.geo_model.specs.World.{Taste}
use Rattle.geo_state.specs.declared.state.State.{State}
use Rattle.geo_state.specs.World.{world}

-- the same state, but for the room that is kept for events and requests
pub record IsRoomed (old new : State) : Type 0 where
  pub rest : new ≡ record old {
    queue = new.queue;
    traffic = record old.traffic { spare = new.traffic.spare };
  }
  pub events : new.queue.events ≡ old.queue.events

-- the state with a taste
abbrev pub with_taste : State → Taste → State
with_taste s taste = record s { taste = Some taste }

-- the tasted provider has the sector
abbrev pub HasSector : State → Taste → ℕ → Type 0
HasSector s taste sector =
    IsSomeAnd (provider_at s.topo.topology taste.provider) (λ p. sector < p.size / p.sector)

-- the read of the sector was submitted
abbrev pub HasSubmitted : State → State → Taste → ℕ → Type 0
HasSubmitted old new taste sector =
    (actors : List (List LineCommand)) (log : List Entry)
    → world actors log new ≡ submit_read (world actors log (with_taste old taste)) taste sector
