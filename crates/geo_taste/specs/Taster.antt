-- The consumer of a taste in the mesh: what holds of it, and what the beginning, the read and the end of a taste make
-- of the mesh (geom(4)).
use Rattle.std.specs.Prelude.{◌≡◌, ℕ, nat_le, Bool, true, false, not, ◌||◌, List, Some, IsSome, All, if◌then◌else◌}
use Rattle.geo_base.specs.declared.request.Counts.{Counts}
use Rattle.geo_base.specs.declared.limits.TheConstants.{UNTASTED_RANK}
use Rattle.geo_model.specs.declared.step.Event.{Event}
use Rattle.geo_model.specs.declared.class.Judged.{Judged}
use Rattle.geo_model.specs.declared.class.Judged.TheVariants.{Read, Made}
use Rattle.geo_model.specs.Topology.{Topology, geom_at, add_consumer}
use Rattle.geo_model.specs.Demand.{no_counts, one_read}
use Rattle.geo_model.specs.Opens.{with_grant}
use Rattle.geo_model.specs.Events.{QueuedTopology, tasting_classes}
use Rattle.geo_model.specs.Rank.{rank}
use Rattle.std.specs.Option.{option_map_or}
use Rattle.geo_model.specs.Tasting.{Judging}
use Rattle.geo_model.specs.World.{Config, Taste, NoClass, is_read_out}
use Rattle.geo_model.specs.Chain.{no_links}
use Rattle.geo_model.specs.Sound.{IsTasting}
use Rattle.geo_slots.specs.Slots.{value_at}
use Rattle.geo_mesh.specs.Topo.{TopoView, with_consumer, with_topology}
use Rattle.geo_access.specs.Access.{granted_by, counted_view, IsCounted, IsQuiet}

-- a taste of a provider by a consumer, for which no class was asked yet
abbrev pub first_taste : ℕ → ℕ → Taste
first_taste p c = record {
  provider = p;
  consumer = c;
  classes = tasting_classes;
  asked = NoClass;
  reads = 0;
  chain = no_links;
}

-- what the taste holds at its provider: one read while its read is out
abbrev pub held_by_taste : Taste → Counts
held_by_taste s = if is_read_out s.asked then one_read else no_counts

module _ {C : Type 0} where
  -- the graph and the events, as the model has them
  abbrev pub queued : TopoView C → List Event → QueuedTopology C
  queued t events = record { topology = t.topology; events = events }

  -- whether the geom stands, isn't withering and has a rank at which it is tasted
  abbrev pub is_low : Topology C → ℕ → Bool
  is_low t g = option_map_or (λ x. not (x.withering || nat_le UNTASTED_RANK (rank t x.number))) (geom_at t g) false

  -- all counts are kept, no note is set, and each consumer is attached
  pub record IsSettled (t : TopoView C) : Type 0 where
    pub counted : IsCounted t
    pub quiet : IsQuiet t
    pub attached : All (λ c. IsSome c.provider) t.topology.consumers

  -- with a new consumer of TASTE, geom 2, at a provider; it holds nothing
  abbrev pub with_taster : TopoView C → ℕ → TopoView C
  with_taster t p = with_topology (with_consumer t 2) (add_consumer t.topology 2 (Some p))

  -- with the counts as they are where a consumer is granted this
  abbrev pub with_granted : TopoView C → ℕ → Counts → TopoView C
  with_granted t c grant = counted_view t (with_grant (granted_by t) c grant)

-- what a step came to, with the mesh, the events and the taste after it
abbrev pub judging : TopoView Config → List Event → Taste → Judged → Judging
judging t events s j = record { queued = queued t events; taste = s; judged = j }

-- whether a step made something of the provider
abbrev pub makes : Judged → Bool
makes Made = true
makes judged = false

-- the mesh after a step that made nothing: a read is granted, or it is as it was
abbrev pub with_judged : TopoView Config → ℕ → Judged → TopoView Config
with_judged t c (Read sector) = with_granted t c one_read
with_judged t c judged = t

-- the taste's consumer is the only one of TASTE, is attached to the tasted provider, and holds what the taste does
pub record IsTasteOf (t : TopoView Config) (s : Taste) : Type 0 where
  pub tasting : IsTasting t.topology s
  pub holds : value_at t.wants s.consumer ≡ Some (held_by_taste s)
