-- What is kept beside the parts follows each change of a part.
use Rattle.std.specs.Prelude.{◌≡◌, ℕ, ◌≤◌, List}
use Rattle.geo_base.specs.declared.request.Counts.{Counts}
use Rattle.geo_model.specs.World.{Config}
use Rattle.geo_model.specs.Events.{QueuedTopology, announce_risen, announce_fallen, spoil_at, offer_again, wither, wither_unless_withering, spoil, orphan, resize}
use Rattle.geo_event.specs.EventQueue.{Queued}
use Rattle.geo_mesh.specs.Topo.{TopoView}
use Rattle.geo_access.specs.Access.{IsCounted, IsQuiet, granted_by}
use Rattle.geo_state.specs.declared.state.State.{State}
use Rattle.geo_state.specs.Parts.{SameParts, DisksStay, Comes, IsGone}
use Rattle.geo_state.specs.Trips.{Trip, out_through}
use Rattle.geo_state.specs.Holds.{Holds, OutAreCounted, AreSeats, owed_events}
use Rattle.geo_state.specs.declared.state.DiskSeat.{DiskSeat}

-- effects leave each geom its disk, each provider its geom, and the consumers their numbers
pub record EffectsKeepParts (granted : ℕ → Counts) (q : QueuedTopology Config) : Type 0 where
  pub risen : (ps : List ℕ) → SameParts q.topology (announce_risen granted ps q).topology
  pub fallen : (ps : List ℕ) → SameParts q.topology (announce_fallen ps q).topology
  pub spoiled_at : (p : ℕ) → SameParts q.topology (spoil_at granted q p).topology
  pub offered : (p : ℕ) → SameParts q.topology (offer_again q p).topology
  pub withered : (g : ℕ) → SameParts q.topology (wither q g).topology
  pub unless : (g : ℕ) → SameParts q.topology (wither_unless_withering q g).topology
  pub spoiled : (p : ℕ) → SameParts q.topology (spoil q p).topology
  pub orphaned : (p : ℕ) → SameParts q.topology (orphan q p).topology
  pub resized : (p : ℕ) → SameParts q.topology (resize granted q p).topology

-- another mesh with the same parts, requests out and grants, whose counts are kept, and another queue that has the
-- places that are owed then
abbrev pub HoldsAfterEffects : Type 0
HoldsAfterEffects =
    (s : State) (u : TopoView Config) (q : Queued) → Holds s → SameParts s.topo.topology u.topology
    → u.active ≡ s.topo.active → ((c : ℕ) → granted_by u c ≡ granted_by s.topo c) → IsCounted u → IsQuiet u
    → owed_events u ≤ q.spare → Holds (record s { topo = u; queue = q })

-- requests out through each consumer, after one came through which none is, and after one is gone; and the seats, where
-- the disks stay
pub record FieldsFollow (t u : TopoView Config) (xs : List Trip) : Type 0 where
  pub comes : (c : ℕ) → Comes t u c → out_through xs c ≡ 0 → OutAreCounted t xs → OutAreCounted u xs
  pub goes : (c : ℕ) → IsGone t u c → OutAreCounted t xs → OutAreCounted u xs
  pub seats : (seats : List DiskSeat) → DisksStay t.topology u.topology xs → AreSeats seats t.topology xs
      → AreSeats seats u.topology xs
