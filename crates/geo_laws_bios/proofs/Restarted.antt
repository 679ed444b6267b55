-- How many requests a geom has started is read only where one starts at a NOP geom: other such numbers leave a mesh
-- firm.
use Rattle.std.specs.Prelude.{◌≡◌, ◌≢◌, ◌⊎◌, ℕ, ◌+◌, ◌/◌, ◌<◌, ◌≤◌, ◌==◌, Bool, true, false, not, ◌&&◌, ◌||◌, List, [], ◌∷◌, map, Option, Some, None, All, IsSome, IsSomeAnd, IfSome, IsTrue, MatchOption, option_and_then, option_map, if◌then◌else◌}
use Rattle.std.specs.List.{list_any, enumerate_from}
use Rattle.std.specs.Option.{option_map_or}
use Rattle.std.proofs.Common.{inl, inr, refl, sym, ◌∙◌, ap, subst}
use Rattle.std.proofs.lemmas.Bool.{cases_Bool}
use Rattle.std.proofs.lemmas.List.{length-map}
use Rattle.std.proofs.lemmas.List.Elements.{All-map, All-weaker}
use Rattle.std.proofs.lemmas.Simd.{map-map}
use Rattle.geo_model.proofs.Options.{some_weaker}
use Rattle.geo_model.proofs.FindLists.{find-map, any-map}
use Rattle.geo_model.specs.Counts.{Counts}
use Rattle.geo_model.specs.Kind.{Kind}
use Rattle.geo_model.specs.Kind.TheVariants as kinds
use Rattle.geo_model.specs.TheConstants.{MAX_RANK, UNTASTED_RANK}
use Rattle.geo_model.specs.Words.{is_read}
use Rattle.geo_model.specs.Topology.{Topology, Geom, Provider, Consumer, geom_at, provider_at, consumer_at, providers_of, consumers_of, is_withering, note_started}
use Rattle.geo_model.specs.Graph.{AreNumbers}
use Rattle.geo_model.specs.Rank.{rank}
use Rattle.geo_model.specs.Demand.{have, is_zero}
use Rattle.geo_model.specs.World.{World, Bio, Config, Taste, Asked, NoClass, NextSector, ReadOut, ReadBack, granted_in, children_of, is_sent, is_busy}
use Rattle.geo_model.specs.Place.{disk_of}
use Rattle.geo_model.specs.Bios.{piece_targets, disk_at}
use Rattle.geo_model.specs.Tasting.{facts_of}
use Rattle.geo_model.specs.declared.class.Facts.{Facts}
use Rattle.geo_model.specs.Acceptance.{taste_where}
use Rattle.geo_model.specs.Sound.{RanksHold, StandsBare, ProvidersHold, NumbersHold, HandlesHold, IsTasting, IsOfItsClass, DifferInDisk, HasDiskSizes, IsPlaced, LeadsDown, IsTasteInOrder}
use Rattle.geo_model.specs.SoundBios.{IsBioInOrder, IsFamilyInOrder, HasItsPieces, HasCountFor, shape_of_child, shape_of_piece, DisksHold}
use Rattle.geo_model.specs.Steady.{HasItsComponents, WaitsForPlaces, has_open_provider}
use Rattle.geo_model.specs.Fitting.{GraphHolds, DemandHolds, SizesHold, TasteHolds, Firm, FitsBelow, FitsPlaces, HasOneProvider, PlacesHold, HasItsSum, AsksThere, IsWholeIn, IsAskedInOrder, BiosOf}
use Rattle.geo_laws_counts.specs.CountWords.{DemandStays, AnyConsumer, seen_by_counts}
use Rattle.geo_laws_counts.proofs.SeenCounts.{seen_stays}
use Rattle.geo_laws_graph.proofs.Living.{if_some_weaker}
use Rattle.geo_laws_graph.specs.RankLaws.{AllRanksStay}
use Rattle.geo_laws_graph.proofs.EdgeRanks.{stays_all}
use Rattle.geo_laws_graph.proofs.KeptEdges.{parts-edges}
use Rattle.geo_laws_bios.specs.BioFrames.{restart, restarted, RestartsStayFirm}
use Rattle.geo_laws_bios.proofs.Items.{pairs_map}

-- tests that agree
any_agree : {X : Type 0} (test other : X → Bool) → ((x : X) → test x ≡ other x) → (xs : List X)
    → list_any test xs ≡ list_any other xs
any_agree test other same [] = refl
any_agree test other same (x ∷ xs) = rw (same x, any_agree test other same xs) refl

module _ (s : Geom Config → ℕ) where
  -- what is there of a geom
  some_restart : (P Q : Geom Config → Type 0) → ((g : Geom Config) → P g → Q (restart s g)) → (o : Option (Geom Config))
      → IsSomeAnd o P → IsSomeAnd (option_map (restart s) o) Q
  some_restart P Q so None has = has
  some_restart P Q so (Some g) has = so g has

  -- what is there of a geom, if it is
  if_restart : (P Q : Geom Config → Type 0) → ((g : Geom Config) → P g → Q (restart s g)) → (o : Option (Geom Config))
      → IfSome o P → IfSome (option_map (restart s) o) Q
  if_restart P Q so None has = tt
  if_restart P Q so (Some g) has = so g has

  -- a geom lives
  lives_restart : (o : Option (Geom Config)) → IsSome o → IsSome (option_map (restart s) o)
  lives_restart None lives = lives
  lives_restart (Some g) lives = refl

  -- its class
  kind_restart : (o : Option (Geom Config))
      → option_map_or (λ (g : Geom Config). g.kind) (option_map (restart s) o) kinds.Disk ≡ option_map_or
      (λ (g : Geom Config). g.kind) o kinds.Disk
  kind_restart None = refl
  kind_restart (Some g) = refl

  -- its disk
  disk_restart : (o : Option (Geom Config))
      → option_and_then (λ (g : Geom Config). disk_of g.config) (option_map (restart s) o) ≡ option_and_then
      (λ (g : Geom Config). disk_of g.config) o
  disk_restart None = refl
  disk_restart (Some g) = refl

  module _ (w : World) where
    -- the graph before and after
    abbrev t : Topology Config
    t = w.topology

    -- the graph afterwards
    abbrev u : Topology Config
    u = (restarted s w).topology

    -- each geom is found as before
    geom_found : (n : ℕ) → geom_at u n ≡ option_map (restart s) (geom_at t n)
    geom_found n = find-map (λ (x : Geom Config). x.number == n) (restart s) t.geoms

    -- a fact of geoms in a graph stays true of the restarted geom
    abbrev Stays : (Topology Config → Geom Config → Type 0) → Type 0
    Stays P = (g : Geom Config) → P t g → P u (restart s g)

    -- what holds of a geom that is there
    geom_and : (P : Topology Config → Geom Config → Type 0) → Stays P → (n : ℕ) → IsSomeAnd (geom_at t n) (P t)
        → IsSomeAnd (geom_at u n) (P u)
    geom_and P so n has = subst (λ (o : Option (Geom Config)). IsSomeAnd o (P u)) (sym (geom_found n))
        (some_restart (P t) (P u) so (geom_at t n) has)

    -- what holds of a geom, if it is there
    geom_if : (P : Topology Config → Geom Config → Type 0) → Stays P → (n : ℕ) → IfSome (geom_at t n) (P t)
        → IfSome (geom_at u n) (P u)
    geom_if P so n has = subst (λ (o : Option (Geom Config)). IfSome o (P u)) (sym (geom_found n))
        (if_restart (P t) (P u) so (geom_at t n) has)

    -- it lives
    geom_lives : (n : ℕ) → IsSome (geom_at t n) → IsSome (geom_at u n)
    geom_lives n lives = subst (λ (o : Option (Geom Config)). IsSome o) (sym (geom_found n))
        (lives_restart (geom_at t n) lives)

    -- what holds of all geoms
    all_geoms : (P : Topology Config → Geom Config → Type 0) → Stays P → All (P t) t.geoms → All (P u) u.geoms
    all_geoms P so facts =
        All-map (P u) (restart s) t.geoms (All-weaker (P t) (λ (g : Geom Config). P u (restart s g)) so t.geoms facts)

    -- the geom of a provider, by the provider
    offerer_at : (P : Topology Config → Geom Config → Type 0) → Stays P → (o : Option Provider)
        → IsSomeAnd (option_and_then (λ (x : Provider). geom_at t x.geom) o) (P t)
        → IsSomeAnd (option_and_then (λ (x : Provider). geom_at u x.geom) o) (P u)
    offerer_at P so None has = has
    offerer_at P so (Some x) has = geom_and P so x.geom has

    -- its disk, by the provider
    disk_by : (o : Option Provider)
        → option_and_then (λ (g : Geom Config). disk_of g.config)
        (option_and_then (λ (x : Provider). geom_at u x.geom) o)
        ≡ option_and_then (λ (g : Geom Config). disk_of g.config)
        (option_and_then (λ (x : Provider). geom_at t x.geom) o)
    disk_by None = refl
    disk_by (Some x) = ap (λ (o : Option (Geom Config)). option_and_then (λ (g : Geom Config). disk_of g.config) o)
        (geom_found x.geom) ∙ disk_restart (geom_at t x.geom)

    -- the disk of a provider
    disk_same : (p : ℕ) → disk_at u p ≡ disk_at t p
    disk_same p = disk_by (provider_at t p)

    -- what a class is told of a provider
    facts_same : (p : Provider) → facts_of u p ≡ facts_of t p
    facts_same p =
        let facts : Kind → Facts = λ k. record { kind = k; sector = p.sector; sectors = p.size / p.sector } in
        ap facts (ap (λ (o : Option (Geom Config)). option_map_or (λ (g : Geom Config). g.kind) o kinds.Disk)
        (geom_found p.geom) ∙ kind_restart (geom_at t p.geom))

    -- ranks
    ranks_stay : AllRanksStay t u
    ranks_stay = stays_all t u (length-map t.geoms (restart s)) (parts-edges t u refl refl)
        (parts-edges u t refl refl) (λ live. live)

    -- counts
    demand_stays : DemandStays (granted_in w) t (granted_in w) u AnyConsumer
    demand_stays = seen_stays (granted_in w) t u
        (ap (λ gs. record (seen_by_counts t) { geoms = gs })
        (sym (map-map (λ (x : Geom Config). (x.number, x.kind)) (restart s) t.geoms)))

    -- a geom stands bare
    bare : (n : ℕ) → StandsBare t n → StandsBare u n
    bare n is = record {
      stands = geom_and (λ v g. g.withering ≡ false) (λ g e. e) n is.stands;
      no_provider = is.no_provider;
    }

    -- the ranks are in order
    ranks_hold : RanksHold t → RanksHold u
    ranks_hold hold = record {
      ranked = ranks_stay.ranked hold.ranked;
      not_deep = all_geoms (λ v g. g.number ≢ 1 → g.number ≢ 2 → rank v g.number ≤ MAX_RANK)
          (λ g few a b. subst (λ (r : ℕ). r ≤ MAX_RANK) (sym (ranks_stay.same g.number)) (few a b)) hold.not_deep;
      dev = bare 1 hold.dev;
      taste = bare 2 hold.taste;
    }

    -- so are providers
    providers_hold : ProvidersHold t → ProvidersHold u
    providers_hold hold = record {
      names = hold.names;
      withering = All-weaker (λ (x : Provider). IsTrue (is_withering t x.geom) → x.errored ≡ true)
          (λ (x : Provider). IsTrue (is_withering u x.geom) → x.errored ≡ true)
          (λ x so withers. so
          (subst (λ (b : Bool). IsTrue b)
          (any-map (λ (g : Geom Config). (g.number == x.geom) && g.withering) (restart s) t.geoms) withers))
          t.providers hold.withering;
      sizes = hold.sizes;
    }

    -- numbers
    numbers_hold : NumbersHold t w.disks → NumbersHold u w.disks
    numbers_hold hold = record {
      geoms = subst (λ (ns : List ℕ). AreNumbers ns t.next_geom)
          (sym (map-map (λ (x : Geom Config). x.number) (restart s) t.geoms)) hold.geoms;
      providers = hold.providers;
      consumers = hold.consumers;
      classes = all_geoms (λ v. IsOfItsClass)
          (λ g is. record { config = is.config; dev = is.dev; taste = is.taste }) hold.classes;
      one_geom_of_disk = pairs_map DifferInDisk (restart s) t.geoms hold.one_geom_of_disk;
      disk_sizes = all_geoms (λ v. HasDiskSizes v w.disks) (λ g has. has) hold.disk_sizes;
    }

    -- the taste's consumer
    tasting_at : (o : Option Taste) → MatchOption o (consumers_of t 2 ≡ []) (IsTasting t)
        → MatchOption o (consumers_of t 2 ≡ []) (IsTasting u)
    tasting_at None none = none
    tasting_at (Some x) is =
        record { consumer = is.consumer; alone = is.alone; number = is.number; attached = is.attached }

    -- handles
    handles_hold : HandlesHold t w.handles w.next_handle w.taste → HandlesHold u w.handles w.next_handle w.taste
    handles_hold hold = record {
      numbers = hold.numbers;
      consumers = hold.consumers;
      handles = hold.handles;
      taste = tasting_at w.taste hold.taste;
    }

    -- a provider leads down
    leads_down : (p : Provider) → LeadsDown (granted_in w) t p → LeadsDown (granted_in w) u p
    leads_down p leads =
        geom_and
        (λ v g. (is_zero (have (granted_in w) v p.number) ≡ false) ⊎ (g.withering ≡ false)
        → IsSome (disk_of g.config) ⊎ IsPlaced v g p)
        (λ g so used. so
        (subst (λ (n : Counts). (is_zero n ≡ false) ⊎ (g.withering ≡ false))
        (demand_stays.haves p.number) used)) p.geom leads

    -- whether a geom is open
    open_same : (g : Geom Config)
        → has_open_provider (granted_in w) u (restart s g) ≡ has_open_provider (granted_in w) t g
    open_same g = any_agree (λ (p : Provider). not (is_zero (have (granted_in w) u p.number)))
        (λ (p : Provider). not (is_zero (have (granted_in w) t p.number)))
        (λ p. ap (λ (n : Counts). not (is_zero n)) (demand_stays.haves p.number)) (providers_of t g.number)

    -- the graph
    graph_holds : GraphHolds t w.disks → GraphHolds u w.disks
    graph_holds graph = record {
      ranks = ranks_hold graph.ranks;
      providers = providers_hold graph.providers;
      numbers = numbers_hold graph.numbers;
      made = all_geoms (λ v g. (g.number ≡ 1) ⊎ (g.number ≡ 2) → g.automatic ≡ false) (λ g made. made) graph.made;
      parts = record {
        providers = All-weaker (λ (p : Provider). IsSome (geom_at t p.geom))
            (λ (p : Provider). IsSome (geom_at u p.geom))
            (λ p lives. geom_lives p.geom lives) t.providers graph.parts.providers;
        consumers = All-weaker (λ (c : Consumer). IsSome (geom_at t c.geom))
            (λ (c : Consumer). IsSome (geom_at u c.geom))
            (λ c lives. geom_lives c.geom lives) t.consumers graph.parts.consumers;
      };
      attached = graph.attached;
      partial = all_geoms WaitsForPlaces (λ g waits. waits) graph.partial;
      unmarked = graph.unmarked;
    }

    -- what was granted
    demand_holds : DemandHolds (granted_in w) t → DemandHolds (granted_in w) u
    demand_holds demand = record {
      counts = record {
        exclusive = demand_stays.exclusive demand.counts.exclusive;
        limited = demand_stays.limit demand.counts.limited;
      };
      places =
          All-weaker (LeadsDown (granted_in w) t) (LeadsDown (granted_in w) u) leads_down t.providers demand.places;
      components = all_geoms (HasItsComponents (granted_in w))
          (λ g has used. has (subst (λ (b : Bool). (g.withering ≡ false) ⊎ IsTrue b)
          (open_same g) used)) demand.components;
    }

    -- sizes
    sizes_hold : SizesHold t w.disks → SizesHold u w.disks
    sizes_hold sizes = record {
      disks = sizes.disks;
      sectors = sizes.sectors;
      wholes = All-weaker (FitsBelow t) (FitsBelow u)
          (λ c fits. geom_if
          (λ v g. IfSome (option_and_then (provider_at v) c.provider) (λ q. IsWholeIn g.config q.sector))
          (λ g whole. whole) c.geom fits)
          t.consumers sizes.wholes;
      places = all_geoms FitsPlaces (λ g fits. fits) sizes.places;
      one = all_geoms HasOneProvider (λ g has. has) sizes.one;
      apart = all_geoms (λ v. PlacesHold) (λ g hold. record { apart = hold.apart; few = hold.few }) sizes.apart;
      sums = all_geoms HasItsSum (λ g has. has) sizes.sums;
    }

    -- a class looks at a provider
    asks_there : (p : Provider) (kind : Kind) → AsksThere t p kind → AsksThere u p kind
    asks_there p kind asks = subst (λ (f : Facts). IsSome (taste_where kind f)) (sym (facts_same p)) asks

    -- how far a class is asked
    asked_same : (p : Provider) (a : Asked) → IsAskedInOrder t p a → IsAskedInOrder u p a
    asked_same p NoClass asked = asked
    asked_same p (NextSector kind sector) asked = (asks_there p kind asked.0, asked.1)
    asked_same p (ReadOut kind) asked = asks_there p kind asked
    asked_same p (ReadBack kind got) asked = (asks_there p kind asked.0, asked.1)

    -- a taste
    taste_same : (x : Taste) → IsTasteInOrder t x → IsTasteInOrder u x
    taste_same x is = record {
      rank = offerer_at (λ v g. rank v g.number < UNTASTED_RANK)
          (λ g low. subst (λ (r : ℕ). r < UNTASTED_RANK) (sym (ranks_stay.same g.number)) low)
          (provider_at t x.provider) is.rank;
      reads = is.reads;
      chain = is.chain;
    }

    -- the queue and the taste
    tasting_holds : TasteHolds t w.events w.taste → TasteHolds u w.events w.taste
    tasting_holds tasting = record {
      living = tasting.living;
      order = if_some_weaker (IsTasteInOrder t) (IsTasteInOrder u) taste_same w.taste tasting.order;
      asked = if_some_weaker (λ (x : Taste). IfSome (provider_at t x.provider) (λ p. IsAskedInOrder t p x.asked))
          (λ (x : Taste). IfSome (provider_at t x.provider) (λ p. IsAskedInOrder u p x.asked))
          (λ x asked. if_some_weaker (λ (p : Provider). IsAskedInOrder t p x.asked)
          (λ (p : Provider). IsAskedInOrder u p x.asked)
          (λ p is. asked_same p x.asked is) (provider_at t x.provider) asked) w.taste tasting.asked;
    }

    -- a bio
    bio_same : (x : Bio) → IsBioInOrder (granted_in w) t x → IsBioInOrder (granted_in w) u x
    bio_same x is = record {
      source = some_weaker (λ (c : Consumer). (c.provider ≡ Some x.target) × HasCountFor (granted_in w) t x c)
          (λ (c : Consumer). (c.provider ≡ Some x.target) × HasCountFor (granted_in w) u x c)
          (λ c has. (
            has.0,
            subst (λ (n : Counts). (IsTrue (is_read x.cmd) → 0 < n.r) × (is_read x.cmd ≡ false → 0 < n.w))
                (sym (demand_stays.wants c tt)) has.1,
          )) (consumer_at t x.source) is.source;
      target = is.target;
      bytes = is.bytes;
    }

    -- its pieces
    pieces_same : (x : Bio) → HasItsPieces t w.bios x → HasItsPieces u w.bios x
    pieces_same x has =
        some_weaker
        (λ (p : Provider). IsSomeAnd (geom_at t p.geom) (λ g.
        map shape_of_child (children_of w x.number) ≡ map (λ item. shape_of_piece x item.0 item.1)
        (enumerate_from 0 (piece_targets g.config p x))))
        (λ (p : Provider). IsSomeAnd (geom_at u p.geom) (λ g.
        map shape_of_child (children_of w x.number) ≡ map (λ item. shape_of_piece x item.0 item.1)
        (enumerate_from 0 (piece_targets g.config p x))))
        (λ p is. geom_and
        (λ v g. map shape_of_child (children_of w x.number) ≡ map
        (λ item. shape_of_piece x item.0 item.1) (enumerate_from 0 (piece_targets g.config p x)))
        (λ g e. e) p.geom is) (provider_at t x.target) has

    -- disks
    disks_hold : DisksHold t w.bios → DisksHold u w.bios
    disks_hold disks = record {
      at_disk = All-weaker (λ (x : Bio). IsTrue (is_sent x.phase || is_busy x.phase) → IsSome (disk_at t x.target))
          (λ (x : Bio). IsTrue (is_sent x.phase || is_busy x.phase) → IsSome (disk_at u x.target))
          (λ x has at. subst (λ (o : Option ℕ). IsSome o) (sym (disk_same x.target)) (has at)) w.bios disks.at_disk;
      one_busy = λ i j d less short first second disk at other.
          disks.one_busy i j d less short first second disk (sym (disk_same _) ∙ at) (sym (disk_same _) ∙ other);
    }

    -- the bios
    bios_hold : BiosOf w → BiosOf (restarted s w)
    bios_hold hold = record {
      numbers = hold.numbers;
      order = All-weaker (IsBioInOrder (granted_in w) t) (IsBioInOrder (granted_in w) u) bio_same w.bios hold.order;
      families = All-weaker (IsFamilyInOrder t w.bios) (IsFamilyInOrder u w.bios)
          (λ x is. record {
            parent = is.parent;
            pieces = λ waiting. pieces_same x (is.pieces waiting);
            not_complete = is.not_complete;
            root = is.root;
          }) w.bios hold.families;
      disks = disks_hold hold.disks;
      read_out = hold.read_out;
      owners = hold.owners;
      results = hold.results;
      read = record { one = hold.read.one; sector = hold.read.sector };
    }

-- other numbers of started requests leave a mesh firm
pub restarts_stay_firm : RestartsStayFirm
restarts_stay_firm s w firm = record {
  graph = graph_holds s w firm.graph;
  demand = demand_holds s w firm.demand;
  sizes = sizes_hold s w firm.sizes;
  handles = handles_hold s w firm.handles;
  taste = tasting_holds s w firm.taste;
  bios = bios_hold s w firm.bios;
  commands = firm.commands;
}

-- One more started request

-- how many requests each geom has started then
abbrev one_more : ℕ → Geom Config → ℕ
one_more n x = if x.number == n then x.started + 1 else x.started

-- the geoms then
noted : (n : ℕ) (xs : List (Geom Config))
    → map (λ (x : Geom Config). if x.number == n then record x { started = x.started + 1 } else x) xs ≡ map
    (restart (one_more n)) xs
noted n [] = refl
noted n (x ∷ xs) =
    let change : Geom Config → Geom Config = λ y. if y.number == n then record y { started = y.started + 1 } else y in
    ap (λ y. y ∷ map change xs)
    (elim (cases_Bool (x.number == n)) [ inl e ↦ rw e refl | inr e ↦ rw e refl ])
    ∙ ap (λ ys. restart (one_more n) x ∷ ys) (noted n xs)

-- one more started request leaves a mesh firm
pub noted_stays_firm : (w : World) (g : ℕ) → Firm w → Firm (record w { topology = note_started w.topology g })
noted_stays_firm w g firm =
    subst (λ (gs : List (Geom Config)). Firm (record w { topology = record w.topology { geoms = gs } }))
    (sym (noted g w.topology.geoms)) (restarts_stay_firm (one_more g) w firm)
