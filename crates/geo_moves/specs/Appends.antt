-- A concat that gets one more component: what a command names, and what it changes of a mesh and of a state.
use Rattle.std.specs.Prelude.{◌≡◌, ℕ, ◌+◌, ◌==◌, nat_lt, Bool, not, ◌||◌, List, Option, Some, None}
use Rattle.geo_base.specs.declared.errno.Errno.{Errno}
use Rattle.geo_base.specs.declared.request.Counts.{Counts}
use Rattle.geo_base.specs.declared.limits.TheConstants.{MAX_MEDIA_BYTES}
use Rattle.geo_model.specs.declared.command.LineCommand.{LineCommand}
use Rattle.geo_model.specs.declared.step.Entry.{Entry}
use Rattle.geo_model.specs.declared.step.Event.TheVariants as events
use Rattle.geo_model.specs.Words.{first_error}
use Rattle.geo_model.specs.Topology.{Topology, Provider, provider_at, add_consumer, set_config, set_size}
use Rattle.geo_model.specs.Demand.{risen}
use Rattle.geo_model.specs.Opens.{join_refusal}
use Rattle.geo_model.specs.Events.{announce_risen, post}
use Rattle.geo_model.specs.World.{World, Config}
use Rattle.geo_model.specs.Append.{Growing as GrowingConcat, append_joined, append_tests, component_refusal, growing_concat}
use Rattle.geo_event.specs.EventQueue.{Queued}
use Rattle.geo_mesh.specs.Topo.{TopoView, with_consumer, with_topology, IsButForRoom}
use Rattle.geo_access.specs.Access.{granted_by, noted, IsCounted}
use Rattle.geo_access.specs.Join.{joined_view}
use Rattle.geo_life.specs.Life.{AreStored, CountsStay, notes, queued, without_rises}
use Rattle.geo_state.specs.declared.state.State.{State}
use Rattle.geo_state.specs.World.{world}
use Rattle.geo_moves.specs.declared.below.Below.{Below}
use Rattle.geo_moves.specs.declared.names.Growing.{Growing}
use Rattle.geo_moves.specs.Below.{below_seen}
use Rattle.geo_moves.specs.Names.{growing_seen}

-- What an append names

-- a concat that may grow and a provider, as they were found
pub record AreNamed (t : Topology Config) (growing : Growing) (below : Below) : Type 0 where
  pub name : List ℕ
  pub concat : GrowingConcat
  pub provider : Provider
  pub grows : growing_concat t name ≡ Some concat
  pub found : provider_at t provider.number ≡ Some provider
  pub growing_is : growing ≡ growing_seen concat
  pub below_is : below ≡ below_seen t provider

-- whether the sector sizes differ, or a provider would be too large with so many bytes more
abbrev pub is_misfit : ℕ → ℕ → Provider → Bool
is_misfit sector size p = not (p.sector == sector) || nat_lt MAX_MEDIA_BYTES (p.size + size)

-- such a concat and provider, where no test is against an append of them
pub record IsAble (s : State) (growing : Growing) (below : Below) : Type 0 where
  pub named : AreNamed s.topo.topology growing below
  pub free : (actors : List (List LineCommand)) (log : List Entry)
      → first_error (append_tests (world actors log s) named.concat named.provider) ≡ None

-- the component was refused or not, and this is the world then
pub record IsAppended (old new : World) (x : GrowingConcat) (q : Provider) (refusal : Option Errno) : Type 0 where
  pub refused : refusal ≡ component_refusal old x q
  pub made : (line : ℕ) → new ≡ (append_joined old line x q refusal).0

-- The consumer that joins

-- the grants once the consumer is made, which holds nothing
abbrev pub grants_at : TopoView Config → ℕ → ℕ → Counts
grants_at t geom = granted_by (with_consumer t geom)

-- what refuses a new consumer of a geom at a provider, if anything does
abbrev pub new_refusal : TopoView Config → ℕ → ℕ → Option Errno
new_refusal t geom prov =
    join_refusal (grants_at t geom) (add_consumer t.topology geom None) t.topology.next_consumer prov

-- a new consumer of the geom has joined the provider: each write count that left zero is noted
pub record HasJoined (t : TopoView Config) (geom prov : ℕ) (new : TopoView Config) : Type 0 where
  pub mesh : IsButForRoom new (joined_view (with_consumer t geom) t.topology.next_consumer prov)
  pub counted : IsCounted new
  pub risen : noted new.risen
      ≡ risen (grants_at t geom) (add_consumer t.topology geom None) (grants_at t geom) new.topology

-- The provider that grows

-- with another configuration of the geom, and another size of the provider
abbrev pub larger : Topology Config → Growing → Config → ℕ → Topology Config
larger t x config size = set_size (set_config t x.geom config) x.prov size

-- the mesh with these
abbrev pub larger_mesh : TopoView Config → Growing → Config → ℕ → TopoView Config
larger_mesh t x config size = with_topology t (larger t.topology x config size)

-- these came, what rises was announced, and the growth is to be heard of above
pub record IsLarger (t : TopoView Config) (q : Queued) (x : Growing) (config : Config) (size : ℕ)
    (new : TopoView Config) (queue : Queued) : Type 0 where
  pub announced : (granted : ℕ → Counts) → AreStored granted (larger_mesh t x config size)
      → queued new queue
      ≡ post
      (announce_risen granted (noted t.risen)
      (record { topology = larger t.topology x config size; events = q.events }))
      (events.Resize x.prov)
  pub mesh : new ≡ with_topology (without_rises (larger_mesh t x config size)) new.topology
  pub kept : CountsStay (without_rises (larger_mesh t x config size)) new
  pub room : queue.spare + notes t.risen + 1 ≡ q.spare
