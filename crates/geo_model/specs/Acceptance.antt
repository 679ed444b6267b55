-- What a class says to a sector, and what it makes of a provider that it accepts (geom(4)).
use Rattle.std.specs.Prelude.{ℕ, ◌-◌, ◌*◌, ◌/◌, ◌==◌, nat_le, min, Bool, true, false, not, ◌&&◌, List, [], ◌∷◌, ◌++◌, length, map, filter_map, find, fold, sum, replicate, slice_get, slice_set, Option, Some, None, Result, Ok, Err, is_some, is_none, if◌then◌else◌}
use Rattle.std.specs.List.{list_all, enumerate_from}
use Rattle.std.specs.Option.{option_map, option_and_then, option_flatten}
use Rattle.geo_base.specs.Name.{is_name}
use Rattle.geo_base.specs.declared.decline.DeclineCause.{DeclineCause}
use Rattle.geo_base.specs.declared.decline.DeclineCause.TheVariants as causes
use Rattle.geo_base.specs.declared.kind.Kind.{Kind}
use Rattle.geo_base.specs.declared.kind.Kind.TheVariants as kinds
use Rattle.geo_base.specs.declared.limits.TheConstants.{MAX_MEDIA_BYTES}
use Rattle.geo_model.specs.declared.class.ConcatRecord.{ConcatRecord}
use Rattle.geo_model.specs.declared.class.EbrPart.{EbrPart}
use Rattle.geo_model.specs.declared.class.Facts.{Facts}
use Rattle.geo_model.specs.declared.class.Shape.{Shape}
use Rattle.geo_model.specs.declared.class.LabelRecord.{LabelRecord}
use Rattle.geo_model.specs.declared.class.Shape.TheVariants.{Slices, Logical, Named, Joined, Striped}
use Rattle.geo_model.specs.declared.class.Slice.{Slice}
use Rattle.geo_model.specs.declared.class.StripeRecord.{StripeRecord}
use Rattle.geo_model.specs.declared.class.Verdict.{Verdict}
use Rattle.geo_model.specs.declared.class.Verdict.TheVariants.{Decline, Accept}
use Rattle.geo_model.specs.Words.{is_kind, same_name}
use Rattle.geo_model.specs.Names.{slice_name, logical_name, label_name, concat_name, stripe_name}
use Rattle.geo_model.specs.Topology.{Topology, Geom, Provider, provider_at, provider_of_consumer, is_name_taken, add_geom, add_consumer, set_config}
use Rattle.geo_model.specs.World.{Config, Mbr, Ebr, Label, Concat, Stripe}
use Rattle.geo_model.specs.Records.{mbr_table, label_record, concat_record, stripe_record}
use Rattle.geo_model.specs.Events.{QueuedTopology, offer}

-- What a class judges

-- the first sector for which a class asks, if it looks at the provider at all
abbrev pub taste_where : Kind → Facts → Option ℕ
taste_where kinds.Mbr f = if (f.sector == 512) && not (is_kind f.kind kinds.Mbr) then Some 0 else None
taste_where kinds.Ebr f = if (f.sector == 512) && is_kind f.kind kinds.Mbr then Some 0 else None
taste_where kinds.Label f = if nat_le 2 f.sectors then Some (f.sectors - 1) else None
taste_where kinds.Concat f = if nat_le 2 f.sectors then Some (f.sectors - 1) else None
taste_where kinds.Stripe f = if nat_le 2 f.sectors then Some (f.sectors - 1) else None
taste_where _ f = None

-- what a class says, where the shape is made of what it found
abbrev pub verdict_of : {A : Type 0} → (A → Shape) → Result A DeclineCause → Verdict
verdict_of shape (Ok found) = Accept (shape found)
verdict_of shape (Err cause) = Decline cause

-- whether a label says a media size, and it is another one
abbrev pub is_other_size : Option ℕ → ℕ → Bool
is_other_size None size = false
is_other_size (Some said) size = not (said == size)

-- a label that says another media size than that of the tasted provider is declined
abbrev pub label_verdict : Facts → Result LabelRecord DeclineCause → Verdict
label_verdict f (Ok found) =
    if is_other_size found.size (f.sectors * f.sector) then Decline causes.Media else Accept (Named found)
label_verdict f (Err cause) = Decline cause

-- what a class says to a sector; EBR isn't asked so, since it judges a chain of sectors
abbrev pub judge : Kind → List ℕ → Facts → Verdict
judge kinds.Mbr bytes f = verdict_of Slices (mbr_table bytes f.sectors)
judge kinds.Label bytes f = label_verdict f (label_record bytes)
judge kinds.Concat bytes f = verdict_of Joined (concat_record bytes)
judge kinds.Stripe bytes f = verdict_of Striped (stripe_record bytes)
judge _ bytes f = Decline causes.Magic

-- Making geoms; None where the class declines after all

-- whether providers of these names can be made
abbrev pub are_names_free : Topology Config → List (List ℕ) → Bool
are_names_free t names = list_all (λ name. is_name name && not (is_name_taken t name)) names

-- a provider to be made: its name and its size in bytes
pub record NewSlice : Type 0 where
  pub name : List ℕ
  pub size : ℕ

-- the slices that are kept, in order
abbrev pub new_slices : List ℕ → List (Option Slice) → List NewSlice
new_slices below slices =
    filter_map
    (λ item. option_map (λ s. record { name = slice_name below item.0; size = s.count * 512 }) item.1)
    (enumerate_from 0 slices)

-- the logical partitions that are kept, in the order of their links
abbrev pub new_parts : List ℕ → List (Option EbrPart) → List NewSlice
new_parts below parts =
    filter_map
    (λ item. option_map (λ s. record { name = logical_name below item.0; size = s.count * 512 }) item.1)
    (enumerate_from 0 parts)

-- an automatic geom with the name of the provider and one consumer at it
abbrev pub with_geom_over : QueuedTopology Config → Provider → Kind → Config → QueuedTopology Config
with_geom_over q p kind config = record q {
  topology =
      add_consumer (add_geom q.topology kind p.name config true) q.topology.next_geom (Some p.number);
}

-- what is made, if the names are free
abbrev pub if_free : Topology Config → List (List ℕ) → QueuedTopology Config → Option (QueuedTopology Config)
if_free t names made = if are_names_free t names then Some made else None

-- such a geom with a provider for each of the slices, of sectors of 512 bytes
abbrev pub with_slices : QueuedTopology Config → Provider → Kind → Config → List NewSlice → QueuedTopology Config
with_slices q p kind config slices =
    fold (λ v x. offer v q.topology.next_geom x.name x.size 512) (with_geom_over q p kind config) slices

-- the MBR geom with its slices, or the EBR geom with its partitions
abbrev pub accept_slices : QueuedTopology Config → Provider → Kind → Config → List NewSlice
    → Option (QueuedTopology Config)
accept_slices q p kind config slices =
    if_free q.topology (map (λ x. x.name) slices) (with_slices q p kind config slices)

-- the LABEL geom, with a provider one sector smaller than the media
abbrev pub with_label : QueuedTopology Config → Provider → List ℕ → QueuedTopology Config
with_label q p name =
    offer (with_geom_over q p kinds.Label (Label (Some q.topology.next_consumer)))
    q.topology.next_geom name (p.size - p.sector) p.sector

abbrev pub accept_named : QueuedTopology Config → Provider → List ℕ → Option (QueuedTopology Config)
accept_named q p name = if_free q.topology (name ∷ []) (with_label q p name)

-- Assembly of CONCAT and STRIPE from records

-- the configuration of an assembly with no place filled yet
abbrev pub empty_concat : ConcatRecord → Config
empty_concat found = Concat (Some found.id) (replicate found.count None) (replicate found.count 0)

abbrev pub empty_stripe : StripeRecord → Config
empty_stripe found = Stripe (Some found.id) found.stripe (replicate found.count None) (replicate found.count 0)

-- whether a standing configuration is of the same assembly: the same class, id, count and stripe size
abbrev pub is_same_assembly : Config → Config → Bool
is_same_assembly (Concat (Some a) places sizes) (Concat (Some b) others other_sizes) =
    (a == b) && (length places == length others)
is_same_assembly (Stripe (Some a) s places sizes) (Stripe (Some b) u others other_sizes) =
    (a == b) && ((s == u) && (length places == length others))
is_same_assembly _ _ = false

-- the standing automatic geom of an assembly, the one with the smallest number
abbrev pub standing_geom : Topology Config → List ℕ → Config → Option (Geom Config)
standing_geom t name empty =
    find (λ g. g.automatic && (not g.withering && (same_name g.name name && is_same_assembly g.config empty))) t.geoms

-- the places of a configuration
abbrev pub places_of : Config → List (Option ℕ)
places_of (Concat id places sizes) = places
places_of (Stripe id stripe places sizes) = places
places_of _ = []

-- one more place, filled by a consumer, and the size of its component; only a concat grows
abbrev pub add_place : Config → ℕ → ℕ → Config
add_place (Concat id places sizes) c size = Concat id (places ++ Some c ∷ []) (sizes ++ size ∷ [])
add_place config c size = config

-- a place filled by a consumer, and the size of its component kept
abbrev pub fill_place : Config → ℕ → ℕ → ℕ → Config
fill_place (Concat id places sizes) k c size = Concat id (slice_set places k (Some c)) (slice_set sizes k size)
fill_place (Stripe id stripe places sizes) k c size =
    Stripe id stripe (slice_set places k (Some c)) (slice_set sizes k size)
fill_place config k c size = config

-- the smallest of the sizes
abbrev pub smallest : List ℕ → ℕ
smallest [] = 0
smallest (n ∷ []) = n
smallest (n ∷ m ∷ ns) = min n (smallest (m ∷ ns))

-- the size of the provider of an assembly whose places are all filled
abbrev pub joined_size : Config → ℕ
joined_size (Concat id places sizes) = sum sizes
joined_size (Stripe id stripe places sizes) = length sizes * ((smallest sizes / stripe) * stripe)
joined_size _ = 0

-- whether the size is one that a provider may have
abbrev pub is_size : ℕ → Bool
is_size n = nat_le 1 n && nat_le n MAX_MEDIA_BYTES

-- the providers at the filled places, in order
abbrev pub providers_at : Topology Config → List (Option ℕ) → List Provider
providers_at t places =
    filter_map (λ place. option_and_then (provider_at t) (option_and_then (provider_of_consumer t) place)) places

-- the provider of an assembly is made, now that all places are filled
abbrev pub finish : QueuedTopology Config → ℕ → Config → List ℕ → ℕ → Option (QueuedTopology Config)
finish q g config name sector =
    if is_size (joined_size config)
    then if_free q.topology (name ∷ []) (offer q g name (joined_size config) sector)
    else None

-- the geom of an assembly with one more place filled, by a new consumer at the provider
abbrev pub with_place : QueuedTopology Config → Provider → ℕ → Config → QueuedTopology Config
with_place q p g filled = record q { topology = set_config (add_consumer q.topology g (Some p.number)) g filled }

-- the provider fills a place, its component being one sector smaller, and where no place is left the assembly is
-- finished
abbrev pub join_place : QueuedTopology Config → Provider → ℕ → Config → ℕ → List ℕ → Option (QueuedTopology Config)
join_place q p g config place name =
    let filled : Config = fill_place config place q.topology.next_consumer (p.size - p.sector) in
    if list_all is_some (places_of filled)
    then finish (with_place q p g filled) g filled name p.sector
    else Some (with_place q p g filled)

-- a place can be filled where it is free and the components there have the same sector size
abbrev pub can_join : Topology Config → Provider → Geom Config → ℕ → Bool
can_join t p g place =
    is_none (option_flatten (slice_get (places_of g.config) place))
    && list_all (λ x. x.sector == p.sector) (providers_at t (places_of g.config))

-- what a record says: class and name of the geom, its configuration while empty, the place, the name of the provider
pub record Member : Type 0 where
  pub kind : Kind
  pub geom_name : List ℕ
  pub empty : Config
  pub place : ℕ
  pub name : List ℕ

abbrev pub concat_member : ConcatRecord → Member
concat_member found = record {
  kind = kinds.Concat;
  geom_name = found.name;
  empty = empty_concat found;
  place = found.place;
  name = concat_name found.name;
}

abbrev pub stripe_member : StripeRecord → Member
stripe_member found = record {
  kind = kinds.Stripe;
  geom_name = found.name;
  empty = empty_stripe found;
  place = found.place;
  name = stripe_name found.name;
}

-- the provider takes its place in the standing geom of the assembly, or in a new one
abbrev pub join_at : QueuedTopology Config → Provider → Member → Option (Geom Config) → Option (QueuedTopology Config)
join_at q p m (Some g) =
    if can_join q.topology p g m.place then join_place q p g.number g.config m.place m.name else None
join_at q p m None =
    join_place (record q { topology = add_geom q.topology m.kind m.geom_name m.empty true })
    p q.topology.next_geom m.empty m.place m.name

abbrev pub accept_member : QueuedTopology Config → Provider → Member → Option (QueuedTopology Config)
accept_member q p m = join_at q p m (standing_geom q.topology m.geom_name m.empty)

-- what an accepted shape makes
abbrev pub accept : QueuedTopology Config → Provider → Shape → Option (QueuedTopology Config)
accept q p (Slices table) =
    accept_slices q p kinds.Mbr (Mbr (Some q.topology.next_consumer) table.slices) (new_slices p.name table.slices)
accept q p (Logical table) =
    accept_slices q p kinds.Ebr (Ebr (Some q.topology.next_consumer) table.parts) (new_parts p.name table.parts)
accept q p (Named found) = accept_named q p (label_name found.name)
accept q p (Joined found) = accept_member q p (concat_member found)
accept q p (Striped found) = accept_member q p (stripe_member found)
