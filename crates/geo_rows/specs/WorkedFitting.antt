-- The facts of Fitting as tests, so that they can be computed at each moment of the worked runs.
use Rattle.std.specs.Prelude.{ℕ, ◌/◌, ◌%◌, ◌==◌, nat_lt, nat_le, Bool, true, false, not, ◌&&◌, ◌||◌, List, [], ◌∷◌, length, count_by, Option, is_some, option_and_then}
use Rattle.std.specs.Bool.{Decides}
use Rattle.std.specs.List.{list_all}
use Rattle.geo_base.specs.declared.kind.Kind.{Kind}
use Rattle.geo_base.specs.declared.kind.Kind.TheVariants as kinds
use Rattle.geo_base.specs.declared.limits.TheConstants.{MAX_COMPONENTS, MAX_MEDIA_BYTES}
use Rattle.geo_model.specs.declared.step.BioResult.{BioResult}
use Rattle.geo_model.specs.declared.step.BioResult.TheVariants as results
use Rattle.geo_model.specs.declared.step.Entry.{Entry}
use Rattle.geo_model.specs.Words.{is_kind}
use Rattle.geo_model.specs.Topology.{Topology, Geom, Provider, Consumer, geom_at, provider_at, consumer_at, providers_of}
use Rattle.geo_model.specs.World.{World, Config, Mbr, Ebr, Stripe, Nop, Plan, Bio, HeaderDisk, Asked, NoClass, NextSector, ReadOut, ReadBack, is_taste_root}
use Rattle.geo_model.specs.Place.{components}
use Rattle.geo_model.specs.Acceptance.{taste_where, places_of, joined_size}
use Rattle.geo_model.specs.Tasting.{facts_of}
use Rattle.geo_model.specs.Fitting.{Fitting, sizes_of}
use Rattle.geo_model.specs.Log.{moments, replay}
use Rattle.geo_model.specs.Opening.{opening}
use Rattle.geo_laws_scripts.specs.CommandForms.{is_command}
use Rattle.geo_rows.specs.FixedRuns.{run_fixed, zero_devices}
use Rattle.geo_rows.specs.WorkedSound.{some_and, none_or, all_pairs, all_hold}

-- whether the disk has a sector size and a size that a provider may have
abbrev pub is_sector_size : ℕ → Bool
is_sector_size size = (size == 512) || (size == 4096)

abbrev pub is_header_disk : HeaderDisk → Bool
is_header_disk d =
    is_sector_size d.sector && (nat_le 1 d.size && ((d.size % d.sector == 0) && nat_le d.size MAX_MEDIA_BYTES))

-- whether the windows and strips of a configuration are whole sectors of this size
abbrev pub is_whole_in : Config → ℕ → Bool
is_whole_in (Mbr below slices) sector = sector == 512
is_whole_in (Ebr below parts) sector = sector == 512
is_whole_in (Nop below offset fail) sector = offset % sector == 0
is_whole_in (Stripe id stripe places sizes) sector = nat_le 1 stripe && (stripe % sector == 0)
is_whole_in _ sector = true

abbrev pub fits_below : Topology Config → Consumer → Bool
fits_below t c =
    none_or (geom_at t c.geom) (λ g.
    none_or (option_and_then (provider_at t) c.provider) (λ q. is_whole_in g.config q.sector))

-- whether each two items of the lists, place by place, pass the test
abbrev pub all_beside : {A B : Type 0} → (A → B → Bool) → List A → List B → Bool
all_beside test [] [] = true
all_beside test (x ∷ xs) (y ∷ ys) = test x y && all_beside test xs ys
all_beside test _ _ = false

-- whether each place of a geom has a size, of whole sectors of its component and not above it
abbrev pub fits_place : Topology Config → ℕ → Option ℕ → ℕ → Bool
fits_place t g place size =
    none_or (option_and_then (consumer_at t) place) (λ c.
    not (c.geom == g)
    || none_or (option_and_then (provider_at t) c.provider) (λ q. nat_le size q.size && (size % q.sector == 0)))

abbrev pub fits_places : Topology Config → Geom Config → Bool
fits_places t g = all_beside (fits_place t g.number) (places_of g.config) (sizes_of g.config)

-- whether the class that is asked looks at the provider, at a sector of it, and what is back is one sector
abbrev pub asks_there : Topology Config → Provider → Kind → Bool
asks_there t p kind = is_some (taste_where kind (facts_of t p))

abbrev pub is_one_sector : Provider → BioResult → Bool
is_one_sector p (results.Bytes bytes) = length bytes == p.sector
is_one_sector p _ = true

abbrev pub is_asked_in_order : Topology Config → Provider → Asked → Bool
is_asked_in_order t p NoClass = true
is_asked_in_order t p (NextSector kind sector) = asks_there t p kind && nat_lt sector (p.size / p.sector)
is_asked_in_order t p (ReadOut kind) = asks_there t p kind
is_asked_in_order t p (ReadBack kind got) = asks_there t p kind && is_one_sector p got

-- whether the read of a taste is one, and of one sector
abbrev pub taste_read_holds : Topology Config → List Bio → Bool
taste_read_holds t bios =
    nat_le (count_by (λ x. is_taste_root x.owner) bios) 1
    && list_all (λ x. not (is_taste_root x.owner) || some_and (provider_at t x.target) (λ p. x.len == p.sector)) bios

-- whether a CONCAT has at most one provider
abbrev pub has_one_provider : Topology Config → Geom Config → Bool
has_one_provider t g = not (is_kind g.kind kinds.Concat) || nat_le (length (providers_of t g.number)) 1

-- whether the provider of a CONCAT or STRIPE is as long as its components make it
abbrev pub has_its_sum : Topology Config → Geom Config → Bool
has_its_sum t g =
    not (is_kind g.kind kinds.Concat || is_kind g.kind kinds.Stripe)
    || list_all (λ p. p.size == joined_size g.config) (providers_of t g.number)

-- whether the places of a geom name different consumers, and are at most sixteen
abbrev pub places_hold : Geom Config → Bool
places_hold g = all_pairs (λ a b. not (a == b)) (components g.config)
    && nat_le (length (places_of g.config)) MAX_COMPONENTS

-- whether the world is fitting
unfoldable pub is_fitting_world : World → Bool
is_fitting_world w = all_hold
    (list_all is_header_disk w.disks
    ∷ list_all (λ p. is_sector_size p.sector) w.topology.providers
    ∷ list_all (fits_below w.topology) w.topology.consumers
    ∷ list_all (fits_places w.topology) w.topology.geoms
    ∷ list_all (has_one_provider w.topology) w.topology.geoms
    ∷ list_all places_hold w.topology.geoms
    ∷ list_all (has_its_sum w.topology) w.topology.geoms
    ∷ none_or w.taste (λ s. none_or (provider_at w.topology s.provider) (λ p. is_asked_in_order w.topology p s.asked))
    ∷ taste_read_holds w.topology w.bios
    ∷ list_all (λ rest. list_all (λ c. is_command c.command) rest) w.actors
    ∷ [])

-- the test is true of a world exactly where it is fitting
abbrev pub TestsFitting : Type 0
TestsFitting = (w : World) → Decides (is_fitting_world w) (Fitting w)

-- whether each world of a log is fitting
abbrev pub fitting_along : World → List Entry → Bool
fitting_along opened log = list_all (λ m. is_fitting_world m.before) (moments opened log)
    && is_fitting_world (replay opened log)

-- whether each world of the run of a plan is
abbrev pub run_is_fitting : Plan → List (ℕ × ℕ) → Bool
run_is_fitting plan facts =
    fitting_along (opening plan facts) (run_fixed 400 (opening plan facts) (zero_devices facts)).log
