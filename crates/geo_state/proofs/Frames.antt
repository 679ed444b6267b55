-- Changes of the graph that leave each geom its disk, each provider its geom and the consumers their numbers.
use Rattle.std.specs.Prelude.{◌≡◌, ℕ, ◌==◌, Bool, true, false, not, List, [], ◌∷◌, length, map, filter, find, fold, Option, Some, None, if◌then◌else◌}
use Rattle.std.specs.List.{AllByRecursion}
use Rattle.std.specs.Option.{option_map, option_map_or, option_and_then, option_flatten}
use Rattle.std.proofs.Common.{refl, ◌∙◌, ap, rules}
use Rattle.std.proofs.lemmas.List.{length-map}
use Rattle.geo_base.specs.declared.request.Counts.{Counts}
use Rattle.geo_model.specs.Words.{change_where}
use Rattle.geo_model.specs.Topology.{Topology, Geom, Provider, Consumer, geom_at, provider_at, is_withering, attached_to, providers_of, set_error, set_size, set_withering, set_marks, set_config}
use Rattle.geo_model.specs.World.{Config}
use Rattle.geo_model.specs.Place.{disk_of}
use Rattle.geo_model.specs.Bios.{disk_at}
use Rattle.geo_model.specs.GeomCommands.{is_geom_of_disk}
use Rattle.geo_model.specs.Events.{QueuedTopology, post, spoil_at, orphan_provider, wither, wither_unless_withering, offer_again, announce_risen, announce_fallen, spoil, spoil_consumer, is_of_dev, orphan, orphan_consumer, resize, is_outgrown, outgrow_consumer}
use Rattle.geo_laws_graph.proofs.Lists.{map-changed}
use Rattle.geo_state.specs.Parts.{SameParts, disk_row, geom_of_disk, owner_row}

pub parts-self : (t : Topology Config) → SameParts t t
parts-self t = record { geoms = refl; providers = refl; consumers = refl }

pub parts-trans : (t u v : Topology Config) → SameParts t u → SameParts u v → SameParts t v
parts-trans t u v first second = search rules

-- What is read of them

-- the first geom of a disk, by the geoms' numbers and disks
abbrev pub first_of : List (ℕ × Option ℕ) → ℕ → Option ℕ
first_of rows disk = option_map (λ row. row.0) (find (λ row. option_map_or (λ d. d == disk) row.1 false) rows)

pub first_read : (gs : List (Geom Config)) (disk : ℕ)
    → option_map (λ (g : Geom Config). g.number) (find (is_geom_of_disk disk) gs)
    ≡ first_of (map disk_row gs) disk
first_read [] disk = refl
first_read (g ∷ gs) disk = search (rules, first_read gs disk)

pub parts-geom : (t u : Topology Config) → SameParts t u → (disk : ℕ) → geom_of_disk u disk ≡ geom_of_disk t disk
parts-geom t u same disk = search (rules, first_read u.geoms disk, first_read t.geoms disk)

-- what stands under a number
abbrev pub under : {V : Type 0} → List (ℕ × V) → ℕ → Option V
under rows n = option_map (λ row. row.1) (find (λ row. row.0 == n) rows)

pub under_read : {X V : Type 0} (number : X → ℕ) (see : X → V) (n : ℕ) (xs : List X)
    → option_map see (find (λ x. number x == n) xs)
    ≡ under (map (λ x. let row : ℕ × V = (number x, see x) in row) xs) n
under_read number see n [] = refl
under_read {X} {V} number see n (x ∷ xs) = search (rules, under_read number see n xs)

-- the disk of a provider, by these numbers
abbrev pub disk_under : List (ℕ × ℕ) → List (ℕ × Option ℕ) → ℕ → Option ℕ
disk_under providers geoms p = option_and_then (λ g. option_flatten (under geoms g)) (under providers p)

pub disk_read : (t : Topology Config) (p : ℕ)
    → disk_at t p ≡ disk_under (map owner_row t.providers)
    (map disk_row t.geoms) p
disk_read t p =
    on (provider_at t p)
    ∙ ap (option_and_then (λ g. option_flatten (under (map disk_row t.geoms) g)))
    (under_read (λ (x : Provider). x.number) (λ x. x.geom) p t.providers)
  where
    flat : (o : Option (Geom Config))
        → option_and_then (λ (g : Geom Config). disk_of g.config) o
        ≡ option_flatten (option_map (λ (g : Geom Config). disk_of g.config) o)
    flat None = refl
    flat (Some g) = refl

    on : (o : Option Provider)
        → option_and_then (λ (g : Geom Config). disk_of g.config)
        (option_and_then (λ (x : Provider). geom_at t x.geom) o)
        ≡ option_and_then
        (λ g. option_flatten (under (map disk_row t.geoms) g))
        (option_map (λ (x : Provider). x.geom) o)
    on None = refl
    on (Some x) =
        flat (geom_at t x.geom)
        ∙ ap option_flatten (under_read (λ (g : Geom Config). g.number) (λ g. disk_of g.config) x.geom t.geoms)

pub parts-disk : (t u : Topology Config) → SameParts t u → (p : ℕ) → disk_at u p ≡ disk_at t p
parts-disk t u same p = search (rules, disk_read u p, disk_read t p)

pub parts-count : (t u : Topology Config) → SameParts t u → length u.providers ≡ length t.providers
parts-count t u same = search (rules, length-map u.providers owner_row, length-map t.providers owner_row)

-- Changes of one thing

module _ (t : Topology Config) where
  pub parts-marks : (test : Consumer → Bool) (mark : Bool) → SameParts t (set_marks t test mark)
  parts-marks test mark =
      search (rules, map-changed test (λ x. record x { spoiled = mark }) (λ x. x.number) (λ x e. refl) t.consumers)

  pub parts-error : (p : ℕ) → SameParts t (set_error t p)
  parts-error p =
      search (
        rules,
        map-changed (λ (x : Provider). x.number == p) (λ x. record x { errored = true }) owner_row (λ x e. refl)
            t.providers,
      )

  pub parts-size : (p size : ℕ) → SameParts t (set_size t p size)
  parts-size p size =
      search (
        rules,
        map-changed (λ (x : Provider). x.number == p) (λ x. record x { size = size }) owner_row (λ x e. refl)
            t.providers,
      )

  pub parts-withering : (g : ℕ) → SameParts t (set_withering t g)
  parts-withering g =
      search (
        rules,
        map-changed (λ (x : Geom Config). x.number == g) (λ x. record x { withering = true }) disk_row (λ x e. refl)
            t.geoms,
      )

  -- another configuration of the same disk, or of none as before
  pub parts-config : (g : ℕ) (config : Config)
      → AllByRecursion (λ (x : Geom Config). (x.number == g) ≡ true → disk_of x.config ≡ disk_of config) t.geoms
      → SameParts t (set_config t g config)
  parts-config g config same = record { geoms = on t.geoms same; providers = refl; consumers = refl }
    where
      on : (gs : List (Geom Config))
          → AllByRecursion (λ (x : Geom Config). (x.number == g) ≡ true → disk_of x.config ≡ disk_of config) gs
          → map disk_row
          (change_where (λ (x : Geom Config). x.number == g) (λ x. record x { config = config }) gs)
          ≡ map disk_row gs
      on [] all = refl
      on (x ∷ xs) all = search (rules, on xs all.1)

-- Effects

-- a fold of steps that keep the parts
fold_parts : {Y : Type 0} (step : QueuedTopology Config → Y → QueuedTopology Config)
    → ((q : QueuedTopology Config) (y : Y) → SameParts q.topology (step q y).topology)
    → (ys : List Y) (q : QueuedTopology Config) → SameParts q.topology (fold step q ys).topology
fold_parts step keeps [] q = parts-self q.topology
fold_parts step keeps (y ∷ ys) q =
    parts-trans q.topology (step q y).topology (fold step (step q y) ys).topology (keeps q y)
    (fold_parts step keeps ys (step q y))

-- one of two
either_parts : (b : Bool) (t : Topology Config) (q r : QueuedTopology Config) → SameParts t q.topology
    → SameParts t r.topology → SameParts t (if b then q else r).topology
either_parts true t q r first second = first
either_parts false t q r first second = second

pub parts-spoil_at : (granted : ℕ → Counts) (q : QueuedTopology Config) (p : ℕ)
    → SameParts q.topology (spoil_at granted q p).topology
parts-spoil_at granted q p =
    parts-marks q.topology (λ c. Rattle.geo_model.specs.Events.is_to_spoil granted q.topology p c) true

pub parts-risen : (granted : ℕ → Counts) (ps : List ℕ) (q : QueuedTopology Config)
    → SameParts q.topology (announce_risen granted ps q).topology
parts-risen granted ps q = fold_parts (spoil_at granted) (parts-spoil_at granted) ps q

pub parts-offer_again : (q : QueuedTopology Config) (p : ℕ) → SameParts q.topology (offer_again q p).topology
parts-offer_again q p =
    either_parts _ q.topology q (post q (Rattle.geo_model.specs.declared.step.Event.TheVariants.NewProvider p))
    (parts-self q.topology) (parts-self q.topology)

pub parts-fallen : (ps : List ℕ) (q : QueuedTopology Config)
    → SameParts q.topology (announce_fallen ps q).topology
parts-fallen ps q = fold_parts offer_again parts-offer_again ps q

pub parts-wither : (q : QueuedTopology Config) (g : ℕ) → SameParts q.topology (wither q g).topology
parts-wither q g =
    parts-trans q.topology (set_withering q.topology g) (wither q g).topology (parts-withering q.topology g)
    (fold_parts orphan_provider (λ r p. parts-error r.topology p)
    (map (λ (x : Provider). x.number) (filter (λ x. not x.errored) (providers_of q.topology g)))
    (record q { topology = set_withering q.topology g }))

pub parts-unless : (q : QueuedTopology Config) (g : ℕ)
    → SameParts q.topology (wither_unless_withering q g).topology
parts-unless q g =
    either_parts (is_withering q.topology g) q.topology q (wither q g) (parts-self q.topology) (parts-wither q g)

pub parts-spoil : (q : QueuedTopology Config) (p : ℕ) → SameParts q.topology (spoil q p).topology
parts-spoil q p =
    fold_parts spoil_consumer
    (λ r c.
    parts-trans r.topology (set_marks r.topology (λ x. x.number == c.number) false) (spoil_consumer r c).topology
    (parts-marks r.topology (λ x. x.number == c.number) false)
    (parts-unless (record r { topology = set_marks r.topology (λ x. x.number == c.number) false }) c.geom))
    (filter (λ c. c.spoiled) (attached_to q.topology p)) q

pub parts-orphan : (q : QueuedTopology Config) (p : ℕ) → SameParts q.topology (orphan q p).topology
parts-orphan q p =
    fold_parts orphan_consumer
    (λ r c. either_parts (is_of_dev r.topology c) r.topology r (wither_unless_withering r c.geom)
    (parts-self r.topology) (parts-unless r c.geom)) (attached_to q.topology p) q

pub parts-resize : (granted : ℕ → Counts) (q : QueuedTopology Config) (p : ℕ)
    → SameParts q.topology (resize granted q p).topology
parts-resize granted q p =
    let outgrown : QueuedTopology Config = fold (outgrow_consumer granted) q (attached_to q.topology p) in
    parts-trans q.topology outgrown.topology (resize granted q p).topology
    (fold_parts (outgrow_consumer granted)
    (λ r c. either_parts (is_outgrown granted r.topology c) r.topology (wither r c.geom) r
    (parts-wither r c.geom) (parts-self r.topology)) (attached_to q.topology p) q)
    (parts-offer_again outgrown p)
