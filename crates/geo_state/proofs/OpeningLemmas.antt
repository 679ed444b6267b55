-- All is kept in the state before any disk stands, and with more room for events and requests.
use Rattle.std.specs.Prelude.{◌≡◌, ℕ, zero, suc, ◌≤◌, List, [], ◌∷◌, length, None, IfSome, slice_get}
use Rattle.std.specs.List.{AllByRecursion}
use Rattle.std.proofs.Common.{ap, rules}
use Rattle.geo_model.specs.World.{Config, Nothing}
use Rattle.geo_event.specs.EventQueue.{Queued}
use Rattle.geo_mesh.specs.Topo.{TopoView, first_mesh}
use Rattle.geo_handles.specs.Handles.{no_handles}
use Rattle.geo_state.specs.Traffic.{TrafficView}
use Rattle.geo_state.specs.declared.state.State.{State}
use Rattle.geo_state.specs.declared.state.OwnBios.{OwnBios}
use Rattle.geo_state.specs.Holds.{Holds}
use Rattle.geo_state.specs.Opening.{IsFreeSeat}

-- what holds of each holds of the one at a place, and so does what follows from it
weaker-at : {X : Type 0} (P Q : X → Type 0) → ((x : X) → P x → Q x) → (xs : List X) (i : ℕ) → AllByRecursion P xs
    → IfSome (slice_get xs i) Q
weaker-at P Q so [] i all = tt
weaker-at P Q so (x ∷ xs) zero all = so x all.0
weaker-at P Q so (x ∷ xs) (suc i) all = weaker-at P Q so xs i all.1

pub holds-empty : (s : State) → s.topo ≡ first_mesh Nothing Nothing s.topo.room → s.handles ≡ no_handles s.handles.room
    → s.traffic.bios ≡ [] → s.taste ≡ None → s.read ≡ None → s.providers ≡ 0
    → AllByRecursion IsFreeSeat s.disks.items → AllByRecursion (λ (x : OwnBios). x.count ≡ 0) s.own.items
    → Holds s
holds-empty s topo handles bios taste read providers seats own =
    search (
      rules,
      weaker-at (λ (x : OwnBios). x.count ≡ 0),
      weaker-at IsFreeSeat,
      ap (λ (u : TopoView Config). length u.topology.providers) topo,
    )

-- more room
pub holds-roomy : (s : State) (q : Queued) → s.queue.spare ≤ q.spare → Holds s → Holds (record s { queue = q })
holds-roomy s q more h = search rules

pub holds-spare : (s : State) (t : TrafficView) → t ≡ record s.traffic { spare = t.spare } → Holds s
    → Holds (record s { traffic = t })
holds-spare s t spare h = search rules
