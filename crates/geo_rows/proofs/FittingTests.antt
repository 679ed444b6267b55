-- The tests of Fitting say what Fitting says.
use Rattle.std.specs.Prelude.{◌≢◌, ℕ, ◌%◌, ◌/◌, ◌==◌, nat_lt, nat_le, not, ◌&&◌, ◌||◌, List, length, count_by, Option, option_and_then}
use Rattle.std.specs.Bool.{Decides}
use Rattle.std.proofs.lemmas.Bool.Decides.{Decides-and, Decides-or, Decides-not, Decides-like, Decides-eqb, Decides-ltb}
use Rattle.geo_laws_scripts.proofs.CommandForms.{formed}
use Rattle.geo_laws_scripts.proofs.Deciders.{always, itself, at_most, each, kind_is}
use Rattle.geo_rows.proofs.TestFacts.{under, if_there, there_and, beside, pairs}
use Rattle.geo_base.specs.Sectors.{IsSectorSize}
use Rattle.geo_base.specs.declared.kind.Kind.{Kind}
use Rattle.geo_base.specs.declared.kind.Kind.TheVariants as kinds
use Rattle.geo_base.specs.declared.limits.TheConstants.{MAX_COMPONENTS, MAX_MEDIA_BYTES}
use Rattle.geo_model.specs.declared.step.BioResult.{BioResult}
use Rattle.geo_model.specs.declared.step.BioResult.TheVariants as results
use Rattle.geo_model.specs.Words.{is_kind}
use Rattle.geo_model.specs.Topology.{Topology, Geom, Provider, Consumer, geom_at, provider_at, consumer_at, providers_of}
use Rattle.geo_model.specs.World.{World, Config, Mbr, Ebr, Stripe, Nop, Bio, HeaderDisk, Asked, NoClass, NextSector, ReadOut, ReadBack, is_taste_root}
use Rattle.geo_model.specs.Place.{components}
use Rattle.geo_model.specs.Acceptance.{places_of, joined_size}
use Rattle.geo_model.specs.Sound.{IsMediaSize}
use Rattle.geo_model.specs.Fitting.{IsHeaderDisk, IsWholeIn, FitsBelow, sizes_of, FitsPlace, FitsPlaces, AsksThere, IsOneSector, IsAskedInOrder, TasteReadHolds, HasOneProvider, PlacesHold, HasItsSum, Fitting}
use Rattle.geo_rows.specs.WorkedFitting.{is_sector_size, is_header_disk, is_whole_in, fits_below, fits_place, fits_places, asks_there, is_one_sector, is_asked_in_order, taste_read_holds, has_one_provider, has_its_sum, places_hold, is_fitting_world}

-- Sizes and sectors

-- what each test says: sector sizes, media sizes, disks of the header
sector_size : (n : ℕ) → Decides (is_sector_size n) (IsSectorSize n)
sector_size n = Decides-or (n == 512) (n == 4096) (Decides-eqb n 512) (Decides-eqb n 4096)

pub media_size : (size sector : ℕ)
    → Decides (nat_le 1 size && ((size % sector == 0) && nat_le size MAX_MEDIA_BYTES)) (IsMediaSize size sector)
media_size size sector =
    Decides-like _ (λ h. assumption) (λ h. assumption)
    (Decides-and _ _ (at_most 1 size) (Decides-and _ _ (Decides-eqb (size % sector) 0) (at_most size MAX_MEDIA_BYTES)))

header_disk : (d : HeaderDisk) → Decides (is_header_disk d) (IsHeaderDisk d)
header_disk d =
    Decides-like _ (λ h. assumption) (λ h. assumption)
    (Decides-and _ _ (sector_size d.sector) (media_size d.size d.sector))

-- windows and strips in whole sectors, and this at the provider below
whole_in : (config : Config) (sector : ℕ) → Decides (is_whole_in config sector) (IsWholeIn config sector)
whole_in (Mbr below slices) sector = Decides-eqb sector 512
whole_in (Ebr below parts) sector = Decides-eqb sector 512
whole_in (Stripe id stripe places sizes) sector =
    Decides-and (nat_le 1 stripe) (stripe % sector == 0) (at_most 1 stripe) (Decides-eqb (stripe % sector) 0)
whole_in (Nop below offset fail) sector = Decides-eqb (offset % sector) 0
whole_in _ sector = always

below : (t : Topology Config) (c : Consumer) → Decides (fits_below t c) (FitsBelow t c)
below t c =
    if_there (geom_at t c.geom) _ _ (λ g.
    if_there (option_and_then (provider_at t) c.provider) _ _ (λ q. whole_in g.config q.sector))

-- Places

-- a place and its size, and all places of a geom
one_place : (t : Topology Config) (g : ℕ) (place : Option ℕ) (size : ℕ)
    → Decides (fits_place t g place size) (FitsPlace t g place size)
one_place t g place size =
    if_there (option_and_then (consumer_at t) place) _ _ (λ c.
    under (c.geom == g) _ (Decides-eqb c.geom g)
    (if_there (option_and_then (provider_at t) c.provider) _ _ (λ q.
    Decides-and (nat_le size q.size) (size % q.sector == 0) (at_most size q.size) (Decides-eqb (size % q.sector) 0))))

places : (t : Topology Config) (g : Geom Config) → Decides (fits_places t g) (FitsPlaces t g)
places t g =
    beside (fits_place t g.number) (FitsPlace t g.number) (one_place t g.number) (places_of g.config)
    (sizes_of g.config)

-- one provider, its size, and places that differ
one_provider : (t : Topology Config) (g : Geom Config) → Decides (has_one_provider t g) (HasOneProvider t g)
one_provider t g =
    under (is_kind g.kind kinds.Concat) _ (kind_is g.kind kinds.Concat) (at_most (length (providers_of t g.number)) 1)

its_sum : (t : Topology Config) (g : Geom Config) → Decides (has_its_sum t g) (HasItsSum t g)
its_sum t g =
    under (is_kind g.kind kinds.Concat || is_kind g.kind kinds.Stripe) _
    (Decides-or _ _ (kind_is g.kind kinds.Concat) (kind_is g.kind kinds.Stripe))
    (each _ _ (λ p. Decides-eqb p.size (joined_size g.config)) (providers_of t g.number))

held_places : (g : Geom Config) → Decides (places_hold g) (PlacesHold g)
held_places g =
    Decides-like _ (λ h. assumption) (λ h. assumption)
    (Decides-and _ _
    (pairs (λ a b. not (a == b)) (λ a b. a ≢ b) (λ a b. Decides-not (a == b) (Decides-eqb a b)) (components g.config))
    (at_most (length (places_of g.config)) MAX_COMPONENTS))

-- The taste

-- the class asked, the sector next and the one that is back
one_sector : (p : Provider) (got : BioResult) → Decides (is_one_sector p got) (IsOneSector p got)
one_sector p (results.Bytes bytes) = Decides-eqb (length bytes) p.sector
one_sector p results.Done = always
one_sector p (results.Failed e) = always

asks : (t : Topology Config) (p : Provider) (kind : Kind) → Decides (asks_there t p kind) (AsksThere t p kind)
asks t p kind = (λ e. e, λ e. e)

asked_in_order : (t : Topology Config) (p : Provider) (asked : Asked)
    → Decides (is_asked_in_order t p asked) (IsAskedInOrder t p asked)
asked_in_order t p NoClass = always
asked_in_order t p (NextSector kind sector) =
    Decides-and (asks_there t p kind) (nat_lt sector (p.size / p.sector)) (asks t p kind)
    (Decides-ltb sector (p.size / p.sector))
asked_in_order t p (ReadOut kind) = asks t p kind
asked_in_order t p (ReadBack kind got) =
    Decides-and (asks_there t p kind) (is_one_sector p got) (asks t p kind) (one_sector p got)

-- the read of a taste
taste_read : (t : Topology Config) (bios : List Bio) → Decides (taste_read_holds t bios) (TasteReadHolds t bios)
taste_read t bios =
    Decides-like _ (λ h. assumption) (λ h. assumption)
    (Decides-and _ _
    (at_most (count_by (λ x. is_taste_root x.owner) bios) 1)
    (each _ _ (λ x.
    under (is_taste_root x.owner) _ (itself (is_taste_root x.owner))
    (there_and (provider_at t x.target) _ _ (λ p. Decides-eqb x.len p.sector)))
    bios))

-- All of it

pub fitting_tested : (w : World) → Decides (is_fitting_world w) (Fitting w)
unfolding is_fitting_world
fitting_tested w =
    Decides-like _ (λ h. assumption) (λ h. assumption)
    (Decides-and _ _ (each _ _ header_disk w.disks)
    (Decides-and _ _ (each _ _ (λ p. sector_size p.sector) w.topology.providers)
    (Decides-and _ _ (each _ _ (below w.topology) w.topology.consumers)
    (Decides-and _ _ (each _ _ (places w.topology) w.topology.geoms)
    (Decides-and _ _ (each _ _ (one_provider w.topology) w.topology.geoms)
    (Decides-and _ _ (each _ _ held_places w.topology.geoms)
    (Decides-and _ _ (each _ _ (its_sum w.topology) w.topology.geoms)
    (Decides-and _ _
    (if_there w.taste _ _ (λ s.
    if_there (provider_at w.topology s.provider) _ _ (λ p. asked_in_order w.topology p s.asked)))
    (Decides-and _ _ (taste_read w.topology w.bios)
    (Decides-and _ _ (each _ _ (each _ _ (λ c. formed c.command)) w.actors) always))))))))))
