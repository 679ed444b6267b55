-- What insert, pull, nop, concat, stripe and destroy answer and do.
use Rattle.std.specs.Prelude.{ℕ, ◌+◌, ◌%◌, ◌==◌, nat_lt, Bool, false, not, ◌&&◌, ◌||◌, List, [], ◌∷◌, length, map, filter_map, find, fold, Option, Some, None, option_and_then}
use Rattle.std.specs.List.{list_any, list_all, enumerate_from, range_with_len}
use Rattle.std.specs.Option.{option_map_or}
use Rattle.geo_base.specs.Name.{is_name}
use Rattle.geo_base.specs.declared.request.Counts.{Counts}
use Rattle.geo_base.specs.declared.errno.Errno.{Errno}
use Rattle.geo_base.specs.declared.errno.Errno.TheVariants.{ENOENT, EEXIST, ENXIO, EBUSY, EINVAL, EDEEP}
use Rattle.geo_base.specs.declared.kind.Kind.{Kind}
use Rattle.geo_base.specs.declared.kind.Kind.TheVariants as kinds
use Rattle.geo_base.specs.declared.limits.TheConstants.{MAX_RANK, MAX_STRIPE_BYTES}
use Rattle.geo_model.specs.declared.step.Outcome.{Outcome}
use Rattle.geo_model.specs.Words.{first_error, is_kind, same_name, largest}
use Rattle.geo_model.specs.Names.{concat_name, stripe_name}
use Rattle.geo_model.specs.Topology.{Topology, Geom, Provider, provider_at, providers_of, find_provider, is_name_taken, add_geom, add_consumer}
use Rattle.geo_model.specs.Rank.{rank}
use Rattle.geo_model.specs.Demand.{have, is_zero}
use Rattle.geo_model.specs.World.{World, Config, Disk, Concat, Stripe, Nop, HeaderDisk, granted_in}
use Rattle.geo_model.specs.Place.{disk_of}
use Rattle.geo_model.specs.Events.{QueuedTopology, offer, wither}
use Rattle.geo_model.specs.WorldEvents.{queued_of, with_queued}
use Rattle.geo_model.specs.Acceptance.{joined_size, is_size}
use Rattle.geo_model.specs.HandleCommands.{refused, done, answer}

-- insert and pull

-- the disk of a name in the header, with its number
abbrev pub header_disk : World → List ℕ → Option (ℕ × HeaderDisk)
header_disk w name = find (λ item. same_name item.1.name name) (enumerate_from 0 w.disks)

-- whether a geom is that of a disk
abbrev pub is_geom_of_disk : ℕ → Geom Config → Bool
is_geom_of_disk disk g = option_map_or (λ d. d == disk) (disk_of g.config) false

-- a disk stands as a DISK geom with one provider of its name
abbrev pub stand_disk : QueuedTopology Config → ℕ × HeaderDisk → QueuedTopology Config
stand_disk q item =
    offer
    (record q { topology = add_geom q.topology kinds.Disk item.1.name (Disk item.0) false })
    q.topology.next_geom item.1.name item.1.size item.1.sector

abbrev pub stand : World → ℕ × HeaderDisk → World
stand w item = with_queued w (stand_disk (queued_of w) item)

-- what is against a disk that is inserted: its geom stands, withering or not, or another provider has its name
abbrev pub insert_tests : Topology Config → ℕ × HeaderDisk → List (Bool × Errno)
insert_tests t item = (list_any (is_geom_of_disk item.0) t.geoms, EBUSY) ∷ (is_name_taken t item.1.name, EEXIST) ∷ []

abbrev pub do_insert : World → ℕ → Option (ℕ × HeaderDisk) → World × Outcome
do_insert w line None = refused w line ENOENT
do_insert w line (Some item) = answer w line (first_error (insert_tests w.topology item)) (stand w item)

-- the geom withers, where there is one
abbrev pub wither_found : World → ℕ → Option (Geom Config) → Errno → World × Outcome
wither_found w line None e = refused w line e
wither_found w line (Some g) e = done (with_queued w (wither (queued_of w) g.number)) line

abbrev pub do_pull : World → ℕ → Option (ℕ × HeaderDisk) → World × Outcome
do_pull w line None = refused w line ENOENT
do_pull w line (Some item) =
    wither_found w line (find (λ g. is_geom_of_disk item.0 g && not g.withering) w.topology.geoms) ENXIO

-- nop, concat, stripe

-- the rank that a geom over these providers has
abbrev pub rank_over : Topology Config → List Provider → ℕ
rank_over t ps = 1 + largest (map (λ p. rank t p.geom) ps)

-- the graph with a geom that isn't automatic, and one consumer of it for each provider, in order
abbrev pub with_geom_at : Topology Config → Kind → List ℕ → Config → List Provider → Topology Config
with_geom_at t kind name config ps =
    fold (λ u p. add_consumer u t.next_geom (Some p.number)) (add_geom t kind name config false) ps

-- such a geom, and a provider of it that is offered for taste
abbrev pub build : QueuedTopology Config → Kind → List ℕ → Config → List Provider → List ℕ → ℕ → ℕ
    → QueuedTopology Config
build q kind geom_name config ps name size sector =
    offer
    (record q { topology = with_geom_at q.topology kind geom_name config ps })
    q.topology.next_geom name size sector

abbrev pub with_made : World → Kind → List ℕ → Config → List Provider → List ℕ → ℕ → ℕ → World
with_made w kind geom_name config ps name size sector =
    with_queued w (build (queued_of w) kind geom_name config ps name size sector)

-- the window of a nop is empty, isn't in whole sectors or passes the media; or the name is too long
abbrev pub is_invalid_nop : Provider → List ℕ → ℕ → ℕ → Bool
is_invalid_nop p name offset size =
    (size == 0) || (not (offset % p.sector == 0) || (not (size % p.sector == 0)
    || (nat_lt p.size (offset + size) || not (is_name name))))

-- what is against a nop over a provider
abbrev pub nop_tests : Topology Config → List ℕ → ℕ → ℕ → Provider → List (Bool × Errno)
nop_tests t name offset size p =
    (p.errored, ENXIO)
    ∷ (is_name_taken t name, EEXIST)
    ∷ (is_invalid_nop p name offset size, EINVAL)
    ∷ (nat_lt MAX_RANK (rank_over t (p ∷ [])), EDEEP)
    ∷ []

abbrev pub nop_config : Topology Config → ℕ → ℕ → Config
nop_config t offset fail = Nop (Some t.next_consumer) offset fail

abbrev pub do_nop : World → ℕ → List ℕ → ℕ → ℕ → ℕ → Option Provider → World × Outcome
do_nop w line name offset size fail None = refused w line ENOENT
do_nop w line name offset size fail (Some p) =
    answer w line
    (first_error (nop_tests w.topology name offset size p))
    (with_made w kinds.Nop name (nop_config w.topology offset fail) (p ∷ []) name size p.sector)

-- the providers of the names, as far as they are found
abbrev pub found_providers : Topology Config → List (List ℕ) → List Provider
found_providers t names = filter_map (λ name. option_and_then (provider_at t) (find_provider t name)) names

-- the consumers that the components of a new geom get, one after another
abbrev pub new_places : Topology Config → List Provider → List (Option ℕ)
new_places t ps = map (λ c. Some c) (range_with_len t.next_consumer (length ps))

-- the sector size of the first of the providers; a command names one or more
abbrev pub sector_of : List Provider → ℕ
sector_of [] = 512
sector_of (p ∷ ps) = p.sector

-- whether the sector sizes differ, or the size would be zero or too large
abbrev pub is_invalid_joined : Config → List Provider → Bool
is_invalid_joined config ps = not (list_all (λ p. p.sector == sector_of ps) ps) || not (is_size (joined_size config))

-- what is against a concat or a stripe of the providers that were found, of so many names
abbrev pub joined_tests : Topology Config → List ℕ → Config → ℕ → List Provider → Bool → List (Bool × Errno)
joined_tests t name config wanted ps is_invalid =
    (is_name_taken t name, EEXIST)
    ∷ (not (length ps == wanted), ENOENT)
    ∷ (list_any (λ p. p.errored) ps, ENXIO)
    ∷ (is_invalid || is_invalid_joined config ps, EINVAL)
    ∷ (nat_lt MAX_RANK (rank_over t ps), EDEEP)
    ∷ []

-- the configuration of a concat or a stripe of whole components
abbrev pub concat_config : Topology Config → List Provider → Config
concat_config t ps = Concat None (new_places t ps) (map (λ p. p.size) ps)

abbrev pub stripe_config : Topology Config → ℕ → List Provider → Config
stripe_config t stripe ps = Stripe None stripe (new_places t ps) (map (λ p. p.size) ps)

abbrev pub do_concat : World → ℕ → List ℕ → ℕ → List Provider → World × Outcome
do_concat w line name wanted ps =
    let config : Config = concat_config w.topology ps in
    answer w line
    (first_error (joined_tests w.topology (concat_name name) config wanted ps false))
    (with_made w kinds.Concat name config ps (concat_name name) (joined_size config) (sector_of ps))

-- the stripe size is no multiple of the sector size, or too large
abbrev pub is_invalid_stripe : ℕ → List Provider → Bool
is_invalid_stripe stripe ps = not (stripe % sector_of ps == 0) || nat_lt MAX_STRIPE_BYTES stripe

abbrev pub do_stripe : World → ℕ → List ℕ → ℕ → ℕ → List Provider → World × Outcome
do_stripe w line name stripe wanted ps =
    let config : Config = stripe_config w.topology stripe ps in
    answer w line
    (first_error (joined_tests w.topology (stripe_name name) config wanted ps (is_invalid_stripe stripe ps)))
    (with_made w kinds.Stripe name config ps (stripe_name name) (joined_size config) (sector_of ps))

-- destroy

-- whether a provider of the geom has a count
abbrev pub is_in_use : {C : Type 0} → (ℕ → Counts) → Topology C → ℕ → Bool
is_in_use granted t g = list_any (λ p. not (is_zero (have granted t p.number))) (providers_of t g)

abbrev pub destroy_tests : {C : Type 0} → (ℕ → Counts) → Topology C → ℕ → List (Bool × Errno)
destroy_tests granted t g = (is_in_use granted t g, EBUSY) ∷ []

abbrev pub do_destroy : World → ℕ → Option (Geom Config) → World × Outcome
do_destroy w line None = refused w line ENOENT
do_destroy w line (Some g) =
    answer w line (first_error (destroy_tests (granted_in w) w.topology g.number))
    (with_queued w (wither (queued_of w) g.number))

-- the provider of a name, and the geom of a class and a name that `destroy` means
abbrev pub found_provider : World → List ℕ → Option Provider
found_provider w name = option_and_then (provider_at w.topology) (find_provider w.topology name)

abbrev pub named_geom : World → Kind → List ℕ → Option (Geom Config)
named_geom w kind name =
    find (λ g. is_kind g.kind kind && (not g.withering && same_name g.name name)) w.topology.geoms
