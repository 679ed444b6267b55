-- What an accepted shape makes has providers whose names are names, since each is tested.
use Rattle.std.specs.Prelude.{◌≡◌, ℕ, ◌-◌, Bool, true, false, not, ◌&&◌, List, [], ◌∷◌, map, Option, Some, None, IfSome, is_some, if◌then◌else◌}
use Rattle.std.specs.List.{AllByRecursion, list_all}
use Rattle.std.proofs.Common.{refl}
use Rattle.std.proofs.lemmas.Bool.{and_parts}
use Rattle.geo_base.specs.Name.{is_name}
use Rattle.geo_base.specs.declared.kind.Kind.{Kind}
use Rattle.geo_base.specs.declared.kind.Kind.TheVariants as kinds
use Rattle.geo_model.specs.declared.class.Shape.{Shape}
use Rattle.geo_model.specs.declared.class.Shape.TheVariants.{Slices, Logical, Named as LabelShape, Joined, Striped}
use Rattle.geo_model.specs.Names.{label_name}
use Rattle.geo_model.specs.Topology.{Topology, Geom, Provider, is_name_taken, add_geom}
use Rattle.geo_model.specs.World.{Config, Label, Mbr, Ebr}
use Rattle.geo_model.specs.Events.{QueuedTopology, offer}
use Rattle.geo_model.specs.Acceptance.{NewSlice, new_slices, new_parts, are_names_free, with_geom_over, with_slices, accept_slices, with_label, accept_named, standing_geom, places_of, fill_place, joined_size, is_size, if_free, finish, with_place, join_place, can_join, Member, concat_member, stripe_member, join_at, accept}
use Rattle.geo_laws_texts.proofs.Graphs.{QueueNamed, offer_named, offers_named}

-- names that are free are names
free_are_names : (t : Topology Config) (xs : List NewSlice) → are_names_free t (map (λ x. x.name) xs) ≡ true
    → AllByRecursion (λ (x : NewSlice). is_name x.name ≡ true) xs
free_are_names t [] free = tt
free_are_names t (x ∷ xs) free =
    let parts = and_parts (is_name x.name && not (is_name_taken t x.name))
    (are_names_free t (map (λ x. x.name) xs)) free in
    ((and_parts (is_name x.name) (not (is_name_taken t x.name)) parts.0).0, free_are_names t xs parts.1)

-- so it is with one
free_is_name : (t : Topology Config) (name : List ℕ) → are_names_free t (name ∷ []) ≡ true → is_name name ≡ true
free_is_name t name free =
    (and_parts (is_name name) (not (is_name_taken t name))
    (and_parts (is_name name && not (is_name_taken t name)) true free).0).0

-- what is made where names are free
made_where : (t : Topology Config) (names : List (List ℕ)) (made : QueuedTopology Config)
    → (are_names_free t names ≡ true → QueueNamed made) → IfSome (if_free t names made) QueueNamed
made_where t names made so = by (are_names_free t names) refl
  where
    by : (b : Bool) → are_names_free t names ≡ b → IfSome (if b then Some made else None) QueueNamed
    by true e = so e
    by false e = tt

module _ (q : QueuedTopology Config) (named : QueueNamed q) (p : Provider) where
  slices_named : (kind : Kind) (config : Config) (xs : List NewSlice)
      → IfSome (accept_slices q p kind config xs) QueueNamed
  slices_named kind config xs =
      made_where q.topology (map (λ x. x.name) xs) (with_slices q p kind config xs)
      (λ free. offers_named q.topology.next_geom 512 xs (free_are_names q.topology xs free)
      (with_geom_over q p kind config) named)

  label_named : (name : List ℕ) → IfSome (accept_named q p name) QueueNamed
  label_named name =
      made_where q.topology (name ∷ []) (with_label q p name)
      (λ free. offer_named (with_geom_over q p kinds.Label (Label (Some q.topology.next_consumer)))
      q.topology.next_geom name (p.size - p.sector) p.sector (free_is_name q.topology name free) named)

  -- once a place is filled
  filled_named : (g : ℕ) (filled : Config) (name : List ℕ)
      → IfSome (if list_all is_some (places_of filled)
      then finish (with_place q p g filled) g filled name p.sector
      else Some (with_place q p g filled)) QueueNamed
  filled_named g filled name = by (list_all is_some (places_of filled)) (sized (is_size (joined_size filled)))
    where
      sized : (b : Bool)
          → IfSome (if b
          then if_free (with_place q p g filled).topology (name ∷ [])
          (offer (with_place q p g filled) g name (joined_size filled) p.sector)
          else None) QueueNamed
      sized true =
          made_where (with_place q p g filled).topology (name ∷ [])
          (offer (with_place q p g filled) g name (joined_size filled) p.sector)
          (λ free. offer_named (with_place q p g filled) g name (joined_size filled) p.sector
          (free_is_name (with_place q p g filled).topology name free) named)
      sized false = tt

      by : (b : Bool) → IfSome (finish (with_place q p g filled) g filled name p.sector) QueueNamed
          → IfSome (if b then finish (with_place q p g filled) g filled name p.sector
          else Some (with_place q p g filled)) QueueNamed
      by true all = all
      by false all = named

  -- a place that is filled
  place_named : (g : ℕ) (config : Config) (place : ℕ) (name : List ℕ)
      → IfSome (join_place q p g config place name) QueueNamed
  place_named g config place name =
      filled_named g (fill_place config place q.topology.next_consumer (p.size - p.sector)) name

-- a place in an assembly, by what stands
joined_named : (q : QueuedTopology Config) → QueueNamed q → (p : Provider) (m : Member) (o : Option (Geom Config))
    → IfSome (join_at q p m o) QueueNamed
joined_named q named p m None =
    place_named (record q { topology = add_geom q.topology m.kind m.geom_name m.empty true }) named p
    q.topology.next_geom m.empty m.place m.name
joined_named q named p m (Some g) = by (can_join q.topology p g m.place)
  where
    by : (b : Bool) → IfSome (if b then join_place q p g.number g.config m.place m.name else None) QueueNamed
    by true = place_named q named p g.number g.config m.place m.name
    by false = tt

-- what is accepted
pub accept_named_all : (q : QueuedTopology Config) → QueueNamed q → (p : Provider) (shape : Shape)
    → IfSome (accept q p shape) QueueNamed
accept_named_all q named p (Slices table) =
    slices_named q named p kinds.Mbr (Mbr (Some q.topology.next_consumer) table.slices)
    (new_slices p.name table.slices)
accept_named_all q named p (Logical table) =
    slices_named q named p kinds.Ebr (Ebr (Some q.topology.next_consumer) table.parts) (new_parts p.name table.parts)
accept_named_all q named p (LabelShape found) = label_named q named p (label_name found.name)
accept_named_all q named p (Joined found) =
    joined_named q named p (concat_member found)
    (standing_geom q.topology (concat_member found).geom_name (concat_member found).empty)
accept_named_all q named p (Striped found) =
    joined_named q named p (stripe_member found)
    (standing_geom q.topology (stripe_member found).geom_name (stripe_member found).empty)
