-- What finds the providers and the consumers of a geom, and the consumers of a provider, over the graph.
use Rattle.std.specs.Prelude.{◌≡◌, ℕ, ◌+◌, ◌-◌, ◌≤◌, ◌==◌, not, List, [], ◌∷◌, ◌++◌, Option, Some, None, map, filter, if◌then◌else◌}
use Rattle.geo_model.specs.Topology.{Topology, Geom, Provider, Consumer}
use Rattle.geo_slots.specs.Slots.{with_value, without}
use Rattle.geo_family.specs.Family.{FamilyView}
use Rattle.geo_mesh.specs.declared.index.Index.{Index}

-- the family of no parent and no child
abbrev pub no_family : FamilyView
no_family = record { parents = []; children = []; next_parent = 1; next_child = 1; parent_room = 0; child_room = 0 }

-- the index of no geom
abbrev pub no_index : Index
no_index = record { offered = no_family; owned = no_family; attached = no_family; above = no_family }

-- for how many more parents and children each family keeps memory
pub record Rooms : Type 0 where
  pub offered_parents : ℕ
  pub offered_children : ℕ
  pub owned_parents : ℕ
  pub owned_children : ℕ
  pub attached_parents : ℕ
  pub attached_children : ℕ
  pub above_parents : ℕ
  pub above_children : ℕ

-- the rooms of an index
abbrev pub rooms_of : Index → Rooms
rooms_of i = record {
  offered_parents = i.offered.parent_room;
  offered_children = i.offered.child_room;
  owned_parents = i.owned.parent_room;
  owned_children = i.owned.child_room;
  attached_parents = i.attached.parent_room;
  attached_children = i.attached.child_room;
  above_parents = i.above.parent_room;
  above_children = i.above.child_room;
}

-- rooms for so many geoms, providers and consumers
pub record AreRooms (geoms providers consumers : ℕ) (r : Rooms) : Type 0 where
  pub offered_parents : geoms ≤ r.offered_parents
  pub offered_children : providers ≤ r.offered_children
  pub owned_parents : geoms ≤ r.owned_parents
  pub owned_children : consumers ≤ r.owned_children
  pub attached_parents : providers ≤ r.attached_parents
  pub attached_children : consumers ≤ r.attached_children
  pub above_parents : providers ≤ r.above_parents
  pub above_children : consumers ≤ r.above_children

-- an index with room for so many geoms, providers and consumers
abbrev pub HaveRoom : ℕ → ℕ → ℕ → Index → Type 0
HaveRoom geoms providers consumers i = AreRooms geoms providers consumers (rooms_of i)

-- the same rows with the room of another one
abbrev pub family_with_rooms : FamilyView → FamilyView → FamilyView
family_with_rooms v w = record v { parent_room = w.parent_room; child_room = w.child_room }

-- the same index with the room of another one
abbrev pub with_rooms : Index → Index → Index
with_rooms i j = record {
  offered = family_with_rooms i.offered j.offered;
  owned = family_with_rooms i.owned j.owned;
  attached = family_with_rooms i.attached j.attached;
  above = family_with_rooms i.above j.above;
}

-- with a new parent, with a new child that may have a parent
abbrev pub with_parent : FamilyView → FamilyView
with_parent v = record v {
  parents = v.parents ++ v.next_parent ∷ [];
  next_parent = v.next_parent + 1;
  parent_room = v.parent_room - 1;
}

-- with a new child, which may have a parent
abbrev pub with_child : FamilyView → Option ℕ → FamilyView
with_child v p = record v {
  children = v.children ++ (v.next_child, p) ∷ [];
  next_child = v.next_child + 1;
  child_room = v.child_room - 1;
}

-- without a parent, without a child
abbrev pub without_parent : FamilyView → ℕ → FamilyView
without_parent v n = record v { parents = filter (λ m. not (m == n)) v.parents }

-- without a child
abbrev pub without_child : FamilyView → ℕ → FamilyView
without_child v n = record v { children = without v.children n }

-- with a new geom, provider, consumer
abbrev pub with_geom_index : Index → Index
with_geom_index i = record i { offered = with_parent i.offered; owned = with_parent i.owned }

-- with a new provider of a geom
abbrev pub with_provider_index : Index → ℕ → Index
with_provider_index i geom = record i {
  offered = with_child i.offered (Some geom);
  attached = with_parent i.attached;
  above = with_parent i.above;
}

-- with a new consumer of a geom, which is attached to nothing
abbrev pub with_consumer_index : Index → ℕ → Index
with_consumer_index i geom = record i {
  owned = with_child i.owned (Some geom);
  attached = with_child i.attached None;
  above = with_child i.above None;
}

-- without a geom, a provider, a consumer
abbrev pub without_geom_index : Index → ℕ → Index
without_geom_index i geom = record i { offered = without_parent i.offered geom; owned = without_parent i.owned geom }

-- without a provider
abbrev pub without_provider_index : Index → ℕ → Index
without_provider_index i prov = record i {
  offered = without_child i.offered prov;
  attached = without_parent i.attached prov;
  above = without_parent i.above prov;
}

-- without a consumer
abbrev pub without_consumer_index : Index → ℕ → Index
without_consumer_index i cons = record i {
  owned = without_child i.owned cons;
  attached = without_child i.attached cons;
  above = without_child i.above cons;
}

-- with another parent of a child, which may be none
abbrev pub with_parent_of : FamilyView → ℕ → Option ℕ → FamilyView
with_parent_of v child parent = record v { children = with_value v.children child parent }

-- with a consumer of a geom attached; DEV's aren't kept among those above
abbrev pub attached_index : Index → ℕ → ℕ → ℕ → Index
attached_index i cons prov geom = record i {
  attached = with_parent_of i.attached cons (Some prov);
  above = record i.above {
    children = if geom == 1 then i.above.children else with_value i.above.children cons (Some prov);
  };
}

-- with a consumer detached
abbrev pub detached_index : Index → ℕ → Index
detached_index i cons = record i {
  attached = with_parent_of i.attached cons None;
  above = with_parent_of i.above cons None;
}

-- the family has these parents and children, and the next numbers
pub record IsFamilyOf (v : FamilyView) (the_parents : List ℕ) (the_children : List (ℕ × Option ℕ))
    (next_p next_c : ℕ) : Type 0 where
  pub parents : v.parents ≡ the_parents
  pub children : v.children ≡ the_children
  pub next_parent : v.next_parent ≡ next_p
  pub next_child : v.next_child ≡ next_c

-- the numbers of the geoms and of the providers, and whose each provider and each consumer is
abbrev pub geom_numbers : {C : Type 0} → List (Geom C) → List ℕ
geom_numbers xs = map (λ x. x.number) xs

-- the numbers of the providers
abbrev pub provider_numbers : List Provider → List ℕ
provider_numbers xs = map (λ x. x.number) xs

-- each provider with its geom
abbrev pub provider_geoms : List Provider → List (ℕ × Option ℕ)
provider_geoms xs = map (λ x. (x.number, Some x.geom)) xs

-- each consumer with its geom
abbrev pub consumer_geoms : List Consumer → List (ℕ × Option ℕ)
consumer_geoms xs = map (λ x. (x.number, Some x.geom)) xs

-- each consumer with the provider to which it may be attached
abbrev pub consumer_providers : List Consumer → List (ℕ × Option ℕ)
consumer_providers xs = map (λ x. (x.number, x.provider)) xs

-- the provider to which a geom's consumer may be attached, but none for DEV's
abbrev pub unless_dev : ℕ → Option ℕ → Option ℕ
unless_dev geom prov = if geom == 1 then None else prov

-- each consumer with the provider to which it may be attached, but none for DEV's
abbrev pub consumers_above : List Consumer → List (ℕ × Option ℕ)
consumers_above xs = map (λ x. (x.number, unless_dev x.geom x.provider)) xs

-- the index is that of the graph
pub record IsIndexed {C : Type 0} (t : Topology C) (i : Index) : Type 0 where
  pub offered : IsFamilyOf i.offered (geom_numbers t.geoms) (provider_geoms t.providers) t.next_geom t.next_provider
  pub owned : IsFamilyOf i.owned (geom_numbers t.geoms) (consumer_geoms t.consumers) t.next_geom t.next_consumer
  pub attached : IsFamilyOf i.attached (provider_numbers t.providers) (consumer_providers t.consumers)
      t.next_provider t.next_consumer
  pub above : IsFamilyOf i.above (provider_numbers t.providers) (consumers_above t.consumers)
      t.next_provider t.next_consumer
