-- What becomes of the mesh and its events where a class accepts a provider (geom(4)): each definition is the model's,
-- with all that a mesh keeps in place of the graph alone. None where the class declines after all.
use Rattle.std.specs.Prelude.{◌≡◌, ℕ, ◌-◌, true, List, [], ◌∷◌, map, fold, Option, Some, None, is_some, IsSomeAnd, if◌then◌else◌}
use Rattle.std.specs.List.{list_all}
use Rattle.geo_base.specs.declared.kind.Kind.{Kind}
use Rattle.geo_base.specs.declared.kind.Kind.TheVariants as kinds
use Rattle.geo_model.specs.declared.class.Shape.{Shape}
use Rattle.geo_model.specs.declared.class.Shape.TheVariants.{Slices, Logical, Named, Joined, Striped}
use Rattle.geo_model.specs.Names.{label_name}
use Rattle.geo_model.specs.Topology.{Geom, Provider, set_config}
use Rattle.geo_model.specs.World.{Config, Mbr, Ebr, Label}
use Rattle.geo_model.specs.Acceptance.{NewSlice, Member, are_names_free, new_slices, new_parts, fill_place, places_of, joined_size, is_size, can_join, concat_member, stripe_member, standing_geom}
use Rattle.geo_mesh.specs.Topo.{TopoView, with_geom, with_topology}
use Rattle.geo_event.specs.EventQueue.{Queued}
use Rattle.geo_taste.specs.declared.shapes.Accepted.{Accepted}
use Rattle.geo_taste.specs.declared.shapes.Accepted.TheVariants.{Made, Declined}
use Rattle.geo_taste.specs.Making.{QueuedMesh, AreBoth, with_attached, with_geom_on, with_offer}

-- what is made, if the names are free
abbrev pub made_if_free : QueuedMesh → List (List ℕ) → QueuedMesh → Option QueuedMesh
made_if_free m names made = if are_names_free m.mesh.topology names then Some made else None

-- an automatic geom with one consumer, at the provider
abbrev pub over : QueuedMesh → ℕ → Kind → List ℕ → Config → QueuedMesh
over m prov kind name config = record m { mesh = with_geom_on m.mesh kind name config true (prov ∷ []) }

-- a provider of the geom for each of the slices, of sectors of 512 bytes
abbrev pub with_slices_of : QueuedMesh → ℕ → List NewSlice → QueuedMesh
with_slices_of m geom slices = fold (λ v x. with_offer v geom x.name x.size 512) m slices

-- the geom of a table with its slices or partitions
abbrev pub sliced : QueuedMesh → ℕ → Kind → List ℕ → Config → List NewSlice → Option QueuedMesh
sliced m prov kind name config slices =
    made_if_free m (map (λ x. x.name) slices)
    (with_slices_of (over m prov kind name config) m.mesh.topology.next_geom slices)

-- the geom of a label, with a provider one sector smaller than the media
abbrev pub labelled : QueuedMesh → Provider → List ℕ → Option QueuedMesh
labelled m p name =
    made_if_free m (name ∷ [])
    (with_offer (over m p.number kinds.Label p.name (Label (Some m.mesh.topology.next_consumer)))
    m.mesh.topology.next_geom name (p.size - p.sector) p.sector)

-- the geom of an assembly with one more consumer, at the provider, and a configuration in which it fills a place
abbrev pub placed : QueuedMesh → ℕ → ℕ → Config → QueuedMesh
placed m prov geom filled =
    let t : TopoView Config = with_attached m.mesh geom prov in
    record m { mesh = with_topology t (set_config t.topology geom filled) }

-- the provider of an assembly whose places are all filled
abbrev pub finished : QueuedMesh → ℕ → Config → List ℕ → ℕ → Option QueuedMesh
finished m geom config name sector =
    if is_size (joined_size config)
    then made_if_free m (name ∷ []) (with_offer m geom name (joined_size config) sector)
    else None

-- a provider fills a place; where none is left the assembly is finished
abbrev pub joined : QueuedMesh → Provider → ℕ → Config → ℕ → List ℕ → Option QueuedMesh
joined m p geom config place name =
    let filled : Config = fill_place config place m.mesh.topology.next_consumer (p.size - p.sector) in
    if list_all is_some (places_of filled)
    then finished (placed m p.number geom filled) geom filled name p.sector
    else Some (placed m p.number geom filled)

-- it does so in the standing geom of the assembly, or in a new one
abbrev pub joined_at : QueuedMesh → Provider → Member → Option (Geom Config) → Option QueuedMesh
joined_at m p x (Some g) =
    if can_join m.mesh.topology p g x.place then joined m p g.number g.config x.place x.name else None
joined_at m p x None =
    joined (record m { mesh = with_geom m.mesh x.kind x.geom_name x.empty true })
    p m.mesh.topology.next_geom x.empty x.place x.name

-- a member of an assembly
abbrev pub with_member : QueuedMesh → Provider → Member → Option QueuedMesh
with_member m p x = joined_at m p x (standing_geom m.mesh.topology x.geom_name x.empty)

-- what an accepted shape makes
abbrev pub accepted : QueuedMesh → Provider → Shape → Option QueuedMesh
accepted m p (Slices table) =
    sliced m p.number kinds.Mbr p.name (Mbr (Some m.mesh.topology.next_consumer) table.slices)
    (new_slices p.name table.slices)
accepted m p (Logical table) =
    sliced m p.number kinds.Ebr p.name (Ebr (Some m.mesh.topology.next_consumer) table.parts)
    (new_parts p.name table.parts)
accepted m p (Named found) = labelled m p (label_name found.name)
accepted m p (Joined found) = with_member m p (concat_member found)
accepted m p (Striped found) = with_member m p (stripe_member found)

-- where some facts hold, the answer tells whether something can be made, and it is made; where the class declines, all
-- is what it was
abbrev pub IsAccepted : Accepted → TopoView Config → Queued → QueuedMesh → Option QueuedMesh → Type 0 → Type 0
IsAccepted Made t q old made facts = facts → IsSomeAnd made (AreBoth t q)
IsAccepted Declined t q old made facts = AreBoth t q old × (facts → made ≡ None)
