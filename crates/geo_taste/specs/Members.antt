-- A member of an assembly, and what comes of the place that it takes.
use Rattle.std.specs.Prelude.{◌≡◌, ℕ, ◌&&◌, true, false, List, [], ◌∷◌, Option, Some, None, is_some, if◌then◌else◌}
use Rattle.std.specs.List.{list_all}
use Rattle.geo_base.specs.declared.kind.Kind.{Kind}
use Rattle.geo_base.specs.declared.kind.Kind.TheVariants as kinds
use Rattle.geo_model.specs.Names.{concat_name, stripe_name}
use Rattle.geo_model.specs.Topology.{Topology, is_name_taken}
use Rattle.geo_model.specs.World.{Config}
use Rattle.geo_model.specs.Acceptance.{Member, are_names_free, fill_place, places_of, joined_size, is_size}
use Rattle.geo_mesh.specs.Topo.{is_provider_size}
use Rattle.geo_taste.specs.declared.member.Member.{Member as Kept}
use Rattle.geo_taste.specs.declared.offer.Offer.{Offer}
use Rattle.geo_taste.specs.declared.place.Plan.{Plan}
use Rattle.geo_taste.specs.Making.{QueuedMesh, with_offer}
use Rattle.geo_taste.specs.Accepting.{placed}

-- the name of the provider of an assembly of a class
abbrev pub joined_name : Kind → List ℕ → List ℕ
joined_name kinds.Stripe name = stripe_name name
joined_name _ name = concat_name name

-- the member as the model has it
abbrev pub member_of : Kept → Member
member_of x = record {
  kind = x.kind;
  geom_name = x.geom_name;
  empty = x.empty;
  place = x.place;
  name = joined_name x.kind x.geom_name;
}

-- the provider of an assembly that is complete, if one can be made
abbrev pub last_plan : Topology Config → Config → List ℕ → ℕ → Option Plan
last_plan t filled name sector =
    if is_size (joined_size filled) && (are_names_free t (name ∷ []) && is_provider_size (joined_size filled) sector)
    then Some (record {
      filled = filled;
      offer = Some (record { name = name; size = joined_size filled; sector = sector });
    })
    else None

-- what a configuration comes to in which a place was filled: the provider is made where no place is left
abbrev pub plan_for : Topology Config → Config → List ℕ → ℕ → Option Plan
plan_for t filled name sector =
    if list_all is_some (places_of filled)
    then last_plan t filled name sector
    else Some (record { filled = filled; offer = None })

-- so where the place is filled by a component of so many bytes, in sectors of so many
abbrev pub plan_of : Topology Config → ℕ → ℕ → Config → ℕ → List ℕ → Option Plan
plan_of t size sector config place name = plan_for t (fill_place config place t.next_consumer size) name sector

-- with a provider, where there is one to be made
abbrev pub with_offer_if : QueuedMesh → ℕ → Option Offer → QueuedMesh
with_offer_if m geom None = m
with_offer_if m geom (Some x) = with_offer m geom x.name x.size x.sector

-- with the place taken
abbrev pub with_plan : QueuedMesh → ℕ → ℕ → Plan → QueuedMesh
with_plan m prov geom plan = with_offer_if (placed m prov geom plan.filled) geom plan.offer

-- a provider can be made
pub record CanBeOffered (t : Topology Config) (x : Offer) : Type 0 where
  pub size : is_provider_size x.size x.sector ≡ true
  pub free : is_name_taken t x.name ≡ false
