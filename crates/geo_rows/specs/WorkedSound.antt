-- The facts of Sound as tests, so that they can be computed at each moment of the worked runs. Offsets of a provider
-- are tried at the beginning of each sector.
use Rattle.std.specs.Prelude.{◌≡◌, All, ℕ, ◌+◌, ◌*◌, ◌/◌, ◌%◌, ◌==◌, nat_lt, nat_le, Bool, true, false, not, ◌&&◌, ◌||◌, List, [], ◌∷◌, ◌++◌, length, map, count_by, Option, Some, None, is_some, slice_get, option_and_then, bytes_eq}
use Rattle.std.specs.List.{list_all, list_any, enumerate_from, range_with_len}
use Rattle.std.specs.Option.{option_map_or}
use Rattle.geo_base.specs.declared.kind.Kind.TheVariants as kinds
use Rattle.geo_base.specs.declared.request.Counts.{Counts}
use Rattle.geo_base.specs.declared.limits.TheConstants.{MAX_LINKS, MAX_MEDIA_BYTES, MAX_RANK, MAX_REQUEST_BYTES, UNTASTED_RANK}
use Rattle.geo_model.specs.declared.class.EbrPart.{EbrPart}
use Rattle.geo_model.specs.declared.step.Entry.{Entry}
use Rattle.geo_model.specs.declared.step.Event.{Event}
use Rattle.geo_model.specs.Words.{is_read, is_write, is_flush, is_kind, same_cmd, names_number, same_name}
use Rattle.geo_model.specs.Topology.{Topology, Geom, Provider, Consumer, geom_at, provider_at, consumer_at, geom_of_provider, provider_with_geom, providers_of, consumers_of, is_withering}
use Rattle.geo_model.specs.Rank.{rank}
use Rattle.geo_model.specs.Demand.{have, want, is_zero, is_exclusive, fits_limit}
use Rattle.geo_model.specs.World.{World, Config, Plan, Bio, Handle, HeaderDisk, Taste, Asked, NoClass, NextSector, granted_in, bio_among, children_among, is_read_out, is_root, is_taste_root, is_done, is_busy, is_sent, is_waiting}
use Rattle.geo_model.specs.declared.step.Owner.{Owner}
use Rattle.geo_model.specs.declared.step.Owner.TheVariants as owners
use Rattle.geo_model.specs.Place.{Spot, place, component, disk_of}
use Rattle.geo_model.specs.Bios.{piece_targets, disk_at, are_children_done}
use Rattle.geo_model.specs.Chain.{Chain}
use Rattle.geo_model.specs.Events.{provider_of_event}
use Rattle.geo_model.specs.Order.{reads_limit}
use Rattle.geo_model.specs.Log.{moments, replay}
use Rattle.geo_model.specs.Opening.{opening}
use Rattle.geo_rows.specs.FixedRuns.{run_fixed, zero_devices}
use Rattle.geo_model.specs.Sound.{Sound, LeadsDown, fits_kind, class_asked, reads_out}
use Rattle.geo_model.specs.SoundBios.{ChildShape, shape_of_child, shape_of_piece}

-- whether there is a value, and it passes the test
abbrev pub some_and : {A : Type 0} → Option A → (A → Bool) → Bool
some_and o test = option_map_or test o false

-- whether there is no value, or it passes the test
abbrev pub none_or : {A : Type 0} → Option A → (A → Bool) → Bool
none_or o test = option_map_or test o true

-- whether each two items, in order, pass the test
abbrev pub all_pairs : {A : Type 0} → (A → A → Bool) → List A → Bool
all_pairs test [] = true
all_pairs test (x ∷ xs) = list_all (test x) xs && all_pairs test xs

-- whether both tests have the same answer
abbrev pub same_test : Bool → Bool → Bool
same_test true b = b
same_test false b = not b

-- whether the tests all hold
abbrev pub all_hold : List Bool → Bool
all_hold tests = list_all (λ b. b) tests

abbrev pub stands_bare : Topology Config → ℕ → Bool
stands_bare t g = some_and (geom_at t g) (λ x. not x.withering) && (length (providers_of t g) == 0)

abbrev pub ranks_hold : Topology Config → Bool
ranks_hold t = all_hold
    (list_all (λ c.
    none_or c.provider (λ p. some_and (provider_at t p) (λ x. nat_lt (rank t x.geom) (rank t c.geom)))) t.consumers
    ∷ list_all (λ x. (x.number == 1) || ((x.number == 2) || nat_le (rank t x.number) MAX_RANK)) t.geoms
    ∷ stands_bare t 1
    ∷ stands_bare t 2
    ∷ [])

abbrev pub counts_hold : (ℕ → Counts) → Topology Config → Bool
counts_hold granted t = is_exclusive granted t && fits_limit granted t

abbrev pub providers_hold : Topology Config → Bool
providers_hold t = all_hold
    (all_pairs (λ x y. not (not x.errored && (not y.errored && same_name x.name y.name))) t.providers
    ∷ list_all (λ x. not (is_withering t x.geom) || x.errored) t.providers
    ∷ list_all (λ x. nat_le 1 x.size && ((x.size % x.sector == 0) && nat_le x.size MAX_MEDIA_BYTES)) t.providers
    ∷ [])

abbrev pub are_numbers : List ℕ → ℕ → Bool
are_numbers numbers next = all_pairs nat_lt numbers && list_all (λ n. nat_lt n next) numbers

abbrev pub has_disk_sizes : Topology Config → List HeaderDisk → Geom Config → Bool
has_disk_sizes t ds x =
    none_or (disk_of x.config) (λ d. some_and (slice_get ds d) (λ disk.
    list_all (λ p. (p.sector == disk.sector) && (p.size == disk.size)) (providers_of t x.number)))

abbrev pub differ_in_disk : Geom Config → Geom Config → Bool
differ_in_disk x y = none_or (disk_of x.config) (λ d. not (names_number (disk_of y.config) d))

abbrev pub is_of_its_class : Geom Config → Bool
is_of_its_class x = all_hold
    (fits_kind x.kind x.config
    ∷ same_test (is_kind x.kind kinds.Dev) (x.number == 1)
    ∷ same_test (is_kind x.kind kinds.Taste) (x.number == 2)
    ∷ [])

abbrev pub numbers_hold : Topology Config → List HeaderDisk → Bool
numbers_hold t ds = all_hold
    (are_numbers (map (λ x. x.number) t.geoms) t.next_geom
    ∷ are_numbers (map (λ x. x.number) t.providers) t.next_provider
    ∷ are_numbers (map (λ x. x.number) t.consumers) t.next_consumer
    ∷ list_all is_of_its_class t.geoms
    ∷ all_pairs differ_in_disk t.geoms
    ∷ list_all (has_disk_sizes t ds) t.geoms
    ∷ [])

abbrev pub has_taste_consumer : List Consumer → Option Taste → Bool
has_taste_consumer [] None = true
has_taste_consumer (c ∷ []) (Some s) = (c.number == s.consumer) && names_number c.provider s.provider
has_taste_consumer _ _ = false

abbrev pub handles_hold : Topology Config → List Handle → ℕ → Option Taste → Bool
handles_hold t hs next o = all_hold
    (are_numbers (map (λ x. x.number) hs) next
    ∷ list_all
    (λ c. is_some c.provider && (count_by (λ h. names_number h.consumer c.number) hs == 1))
    (consumers_of t 1)
    ∷ list_all (λ h. option_map_or (λ c. some_and (consumer_at t c) (λ x. x.geom == 1)) h.consumer h.dead) hs
    ∷ has_taste_consumer (consumers_of t 2) o
    ∷ [])

abbrev pub is_place_inside : Topology Config → Geom Config → Provider → Spot → Bool
is_place_inside t g p spot =
    some_and (option_and_then (consumer_at t) (component g.config spot.component)) (λ c.
    (c.geom == g.number) && some_and (option_and_then (provider_at t) c.provider) (λ q.
    nat_lt spot.offset q.size && (q.sector == p.sector)))

abbrev pub is_placed : Topology Config → Geom Config → Provider → Bool
is_placed t g p =
    list_all
    (λ k. some_and (place g.config p.name (k * p.sector)) (is_place_inside t g p))
    (range_with_len 0 (p.size / p.sector))

abbrev pub leads_down : (ℕ → Counts) → Topology Config → Provider → Bool
leads_down granted t p =
    some_and (geom_at t p.geom) (λ g.
    (is_zero (have granted t p.number) && g.withering) || (is_some (disk_of g.config) || is_placed t g p))

abbrev pub has_count_for : (ℕ → Counts) → Topology Config → Bio → Consumer → Bool
has_count_for granted t x c =
    (not (is_read x.cmd) || nat_lt 0 (want granted t c).r) && (is_read x.cmd || nat_lt 0 (want granted t c).w)

abbrev pub is_range_inside : Bio → Provider → Bool
is_range_inside x p = all_hold
    (nat_le 1 x.len
    ∷ nat_le x.len MAX_REQUEST_BYTES
    ∷ (x.offset % p.sector == 0)
    ∷ (x.len % p.sector == 0)
    ∷ nat_le (x.offset + x.len) p.size
    ∷ [])

abbrev pub is_bio_in_order : (ℕ → Counts) → Topology Config → Bio → Bool
is_bio_in_order granted t x = all_hold
    (some_and (consumer_at t x.source) (λ c. names_number c.provider x.target && has_count_for granted t x c)
    ∷ some_and (provider_at t x.target) (λ p. is_flush x.cmd || is_range_inside x p)
    ∷ (not (is_write x.cmd) || (length x.bytes == x.len))
    ∷ [])

abbrev pub same_shape : ChildShape → ChildShape → Bool
same_shape a b = all_hold
    (same_cmd a.cmd b.cmd
    ∷ (a.index == b.index)
    ∷ (a.source == b.source)
    ∷ (a.offset == b.offset)
    ∷ (a.len == b.len)
    ∷ bytes_eq a.bytes b.bytes
    ∷ [])

abbrev pub same_shapes : List ChildShape → List ChildShape → Bool
same_shapes [] [] = true
same_shapes (a ∷ as') (b ∷ bs) = same_shape a b && same_shapes as' bs
same_shapes _ _ = false

abbrev pub has_its_pieces : Topology Config → List Bio → Bio → Bool
has_its_pieces t bios x =
    some_and (provider_with_geom t x.target) (λ here.
    same_shapes
    (map shape_of_child (children_among bios x.number))
    (map (λ item. shape_of_piece x item.0 item.1) (enumerate_from 0 (piece_targets here.1.config here.0 x))))

abbrev pub has_its_parent : List Bio → Owner → Bool
has_its_parent bios (owners.Child parent index) = some_and (bio_among bios parent) (λ y. is_waiting y.phase)
has_its_parent bios _ = true

abbrev pub is_family_in_order : Topology Config → List Bio → Bio → Bool
is_family_in_order t bios x = all_hold
    (has_its_parent bios x.owner
    ∷ (not (is_waiting x.phase) || has_its_pieces t bios x)
    ∷ (not (is_waiting x.phase) || not (are_children_done bios x.number))
    ∷ (not (is_root x.owner) || not (is_done x.phase))
    ∷ [])

abbrev pub not_both_busy : Topology Config → Bio → Bio → Bool
not_both_busy t x y =
    not (is_busy x.phase)
    || (not (is_busy y.phase) || none_or (disk_at t x.target) (λ d. not (names_number (disk_at t y.target) d)))

abbrev pub disks_hold : Topology Config → List Bio → Bool
disks_hold t bios =
    list_all (λ x. not (is_sent x.phase || is_busy x.phase) || is_some (disk_at t x.target)) bios
    && all_pairs (not_both_busy t) bios

abbrev pub are_reads_in_order : Asked → ℕ → Bool
are_reads_in_order NoClass reads = reads == 0
are_reads_in_order (NextSector kind sector) reads = nat_lt reads reads_limit
are_reads_in_order _ reads = nat_le reads reads_limit

-- whether the sector that is known as next is the chain's
abbrev pub is_next : Asked → ℕ → Bool
is_next (NextSector kind sector) next = sector == next
is_next _ next = true

-- whether a walk over sectors begins at sector 0
abbrev pub begins_at_zero : List ℕ → Bool
begins_at_zero [] = true
begins_at_zero (sector ∷ rest) = sector == 0

-- whether a partition is some sectors of the n that the provider has
abbrev pub is_part_of : ℕ → EbrPart → Bool
is_part_of n s = nat_le 1 s.count && nat_le (s.first + s.count) n

-- whether the chain is as it should be after so many reads at a provider of n sectors
abbrev pub chain_holds : ℕ → Asked → ℕ → Chain → Bool
chain_holds n asked made c = all_hold
    ((made == length c.links + reads_out asked)
    ∷ nat_lt (length c.links) MAX_LINKS
    ∷ list_all (λ l. none_or l.part (is_part_of n)) c.links
    ∷ is_next asked c.next
    ∷ begins_at_zero (map (λ l. l.sector) c.links ++ c.next ∷ [])
    ∷ list_all (λ l. nat_lt l.sector n) c.links
    ∷ nat_lt c.next n
    ∷ all_pairs (λ a b. not (a == b)) (map (λ l. l.sector) c.links)
    ∷ list_all (λ l. not (l.sector == c.next)) c.links
    ∷ [])

-- whether it is where EBR is asked
abbrev pub has_its_chain : Topology Config → Taste → Bool
has_its_chain t s =
    not (some_and (class_asked s.asked) (λ kind. is_kind kind kinds.Ebr))
    || none_or (provider_at t s.provider) (λ p. chain_holds (p.size / p.sector) s.asked s.reads s.chain)

abbrev pub is_taste_in_order : Topology Config → Taste → Bool
is_taste_in_order t s = all_hold
    (some_and (geom_of_provider t s.provider) (λ g. nat_lt (rank t g.number) UNTASTED_RANK)
    ∷ are_reads_in_order s.asked s.reads
    ∷ has_its_chain t s
    ∷ [])

abbrev pub events_hold : Topology Config → List Event → Option Taste → List Bio → Bool
events_hold t es o bios = all_hold
    (list_all (λ e. is_some (provider_at t (provider_of_event e))) es
    ∷ same_test (list_any (λ x. is_taste_root x.owner) bios) (some_and o (λ s. is_read_out s.asked))
    ∷ none_or o (is_taste_in_order t)
    ∷ [])

-- whether the world is sound
unfoldable pub is_sound : World → Bool
is_sound w = all_hold
    (ranks_hold w.topology
    ∷ counts_hold (granted_in w) w.topology
    ∷ providers_hold w.topology
    ∷ numbers_hold w.topology w.disks
    ∷ handles_hold w.topology w.handles w.next_handle w.taste
    ∷ list_all (leads_down (granted_in w) w.topology) w.topology.providers
    ∷ are_numbers (map (λ x. x.number) w.bios) w.next_bio
    ∷ list_all (is_bio_in_order (granted_in w) w.topology) w.bios
    ∷ list_all (is_family_in_order w.topology w.bios) w.bios
    ∷ disks_hold w.topology w.bios
    ∷ events_hold w.topology w.events w.taste w.bios
    ∷ [])

-- a sound world passes the test, and a world that does is sound where the way down from each offset leads on, also from
-- those inside a sector
abbrev pub TestsSound : Type 0
TestsSound = (w : World)
    → (is_sound w ≡ true → All (LeadsDown (granted_in w) w.topology) w.topology.providers → Sound w)
    × (Sound w → is_sound w ≡ true)

-- whether each world of a log is sound
abbrev pub sound_along : World → List Entry → Bool
sound_along opened log = list_all (λ m. is_sound m.before) (moments opened log) && is_sound (replay opened log)

-- whether each world of the run of a plan is sound
abbrev pub run_is_sound : Plan → List (ℕ × ℕ) → Bool
run_is_sound plan facts = sound_along (opening plan facts) (run_fixed 400 (opening plan facts) (zero_devices facts)).log
