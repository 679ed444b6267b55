-- A geom that comes with its consumers and its provider: all is kept; and a disk that stands so.
use Rattle.std.specs.Prelude.{◌≡◌, ℕ, ◌+◌, ◌==◌, Bool, false, List, [], ◌∷◌, ◌++◌, map, Option, Some, None, IsSome, IfSome, All, ◌*◌, ◌≤◌, ◌<◌, length, ◌%◌, true, slice_get}
use Rattle.std.specs.List.{AllByRecursion}
use Rattle.std.specs.Option.{option_map_or}
use Rattle.std.proofs.Common.{refl, sym, ◌∙◌, ap, subst, inl, inr, append_assoc, arith, rules}
use Rattle.std.proofs.lemmas.Bool.{cases_eq, eq-eqb, le-leb}
use Rattle.std.proofs.lemmas.List.{append-nil, map-append, length-append, length-map}
use Rattle.std.proofs.lemmas.List.Elements.{All-contains, All-push, All-weaker, All-from_recursion, recursion_from_All}
use Rattle.geo_base.proofs.FindLists.{found-still}
use Rattle.geo_base.proofs.Options.{none-there, there_with_fact}
use Rattle.geo_access.proofs.Coming.{bare_of}
use Rattle.geo_base.specs.declared.request.Counts.{Counts}
use Rattle.geo_base.specs.declared.kind.Kind.{Kind}
use Rattle.geo_model.specs.Words.{is_granted_kind}
use Rattle.geo_model.specs.Topology.{Topology, Geom, Provider, Consumer, geom_at, provider_at, providers_of, add_provider, is_name_taken}
use Rattle.geo_model.specs.Graph.{IsInOrder, PartsLive, ProvidersLive}
use Rattle.geo_model.specs.Rank.{Ranked, rank}
use Rattle.geo_model.specs.Demand.{no_counts, have, want}
use Rattle.geo_model.specs.Place.{disk_of}
use Rattle.geo_model.specs.World.{Config, Disk}
use Rattle.geo_mesh.specs.Topo.{TopoView, Room, with_geom, with_provider, is_provider_size}
use Rattle.geo_laws_graph.specs.LookupLaws.{new_geom, new_provider, new_consumer}
use Rattle.geo_laws_graph.proofs.Living.{steady-parts}
use Rattle.geo_laws_graph.proofs.Found.{added-geom, added-provider, added-consumer}
use Rattle.geo_laws_counts.proofs.Counters.{nothing_above}
use Rattle.geo_access.specs.Access.{granted_by, holds_grants, IsCounted, IsQuiet}
use Rattle.geo_moves.specs.Making.{with_all_attached, with_attached, with_geom_on, QueuedMesh, AreBoth, both, queued}
use Rattle.geo_moves.proofs.Adding.{consumer_kept, geom_kept, no_consumer, no_geom, provider_kept}
use Rattle.geo_moves.proofs.Kept.{kept_counted}
use Rattle.geo_state.specs.declared.state.State.{State}
use Rattle.geo_state.specs.Steps.{IsFirm, Stands}
use Rattle.geo_state.specs.Parts.{disk_row, owner_row, geom_of_disk}
use Rattle.geo_state.specs.Sites.{HasComers, no_row, AreFresh}
use Rattle.geo_state.proofs.FirmLemmas.{firm-order}
use Rattle.geo_state.proofs.GrantLaws.{comers_hold_nothing}
use Rattle.geo_moves.proofs.Holding.{room_counted}
use Rattle.geo_base.specs.declared.limits.TheConstants.{MAX_RANK, MAX_MEDIA_BYTES}
use Rattle.geo_model.specs.declared.command.LineCommand.{LineCommand}
use Rattle.geo_model.specs.declared.step.Entry.{Entry}
use Rattle.geo_model.specs.WorldEvents.{with_queued}
use Rattle.geo_event.specs.EventQueue.{Queued}
use Rattle.geo_moves.specs.Offer.{Offer}
use Rattle.geo_moves.specs.NewGeom.{NewGeom}
use Rattle.geo_moves.specs.Standing.{CanStandOn}
use Rattle.geo_state.specs.Changes.{IsSettled}
use Rattle.geo_state.specs.Holds.{Holds, owed_events}
use Rattle.geo_state.specs.World.{world, disk_of_seat}
use Rattle.geo_state.proofs.Frames.{parts-self}
use Rattle.geo_state.proofs.LawLemmas.{holds_after_effects}
use Rattle.geo_state.proofs.OwedLemmas.{owed_are_few}
use Rattle.geo_state.proofs.SiteLemmas.{kept_with_sites}
use Rattle.geo_moves.specs.Makes.{HasGrown, built}
use Rattle.geo_moves.proofs.Admitting.{unknown-from}
use Rattle.geo_base.proofs.PlaceLists.{slot-seen}
use Rattle.geo_base.proofs.MemberLists.{slot-contained}
use Rattle.geo_base.specs.Sectors.{IsSectorSize}
use Rattle.geo_base.specs.declared.kind.Kind.TheVariants as kinds
use Rattle.geo_model.specs.GeomCommands.{stand}
use Rattle.geo_model.specs.Sound.{IsMediaSize}
use Rattle.geo_model.specs.Fitting.{IsHeaderDisk}
use Rattle.geo_laws_graph.proofs.Members.{Contains-map}
use Rattle.geo_moves.proofs.ModelLemmas.{makes_as_model}
use Rattle.geo_state.specs.declared.state.DiskSeat.{DiskSeat}
use Rattle.geo_state.specs.Seats.{with_disk_geom}
use Rattle.geo_moves.specs.Disks.{item_at}

-- A geom with its consumers and its provider: all counts are kept, and nothing else comes

-- as many numbers from one on as there are providers
abbrev pub numbers_for : ℕ → List ℕ → List ℕ
numbers_for n [] = []
numbers_for n (p ∷ ps) = n ∷ numbers_for (n + 1) ps

-- a geom that isn't of DEV or TASTE, and has no provider
pub record IsBare (t : Topology Config) (geom : ℕ) : Type 0 where
  pub item : Geom Config
  pub found : geom_at t geom ≡ Some item
  pub kind : is_granted_kind item.kind ≡ false
  pub none : providers_of t item.number ≡ []

-- a new consumer of it wants nothing
bare_quiet : (granted : ℕ → Counts) (t : Topology Config) (geom p : ℕ) → IsBare t geom
    → want granted t (new_consumer t geom (Some p)) ≡ no_counts
bare_quiet granted t geom p is =
    nothing_above granted t (new_consumer t geom (Some p)) is.item is.found is.kind
    (subst (λ ps. All (λ (y : Provider). have granted t y.number ≡ no_counts) ps) (sym is.none)
    (All-from_recursion (λ (y : Provider). have granted t y.number ≡ no_counts) [] tt))

-- What is asked of the graph

-- its numbers are in order, there is no loop, and what its parts name lives
pub record HasShape (t : Topology Config) : Type 0 where
  pub order : IsInOrder t
  pub ranked : Ranked t
  pub parts : PartsLive t

-- so it is where a state stands for a firm world
pub firm_shape : (s : State) → IsFirm s → HasShape s.topo.topology
firm_shape s firm = record {
  order = firm-order firm.0 s firm.1;
  ranked = firm.1.1.graph.ranks.ranked;
  parts = steady-parts s.topo.topology firm.1.1.graph.parts firm.1.1.graph.attached;
}

-- What stays from one mesh to the other, but for what comes

-- the second mesh has all counts of the first, no note is set, and these consumers came
pub record IsMore (t m : TopoView Config) (cs : List ℕ) : Type 0 where
  pub counted : IsCounted m
  pub quiet : IsQuiet m
  pub order : IsInOrder m.topology
  pub live : ProvidersLive m.topology
  pub granted : (c : ℕ) → granted_by m c ≡ granted_by t c
  pub consumers : map (λ (x : Consumer). x.number) m.topology.consumers
      ≡ map (λ (x : Consumer). x.number) t.topology.consumers ++ cs
  pub active : m.active ≡ t.active ++ map no_row cs

module _ (t : TopoView Config) (counted : IsCounted t) (quiet : IsQuiet t) (shape : HasShape t.topology) where
  -- A geom

  module _ (kind : Kind) (name : List ℕ) (config : Config) (automatic : Bool)
      (other : is_granted_kind kind ≡ false) where
    -- the mesh with it
    abbrev raised : TopoView Config
    raised = with_geom t kind name config automatic

    -- whether a geom holds grants is as it was
    holds-same : (g : ℕ) → holds_grants raised.topology g ≡ holds_grants t.topology g
    holds-same g =
        elim (cases_eq g t.topology.next_geom) [
          | inl same ↦
              subst (λ n. holds_grants raised.topology n ≡ holds_grants t.topology n) (sym same)
              (ap (λ o. option_map_or (λ (x : Geom Config). is_granted_kind x.kind) o false)
              (added-geom.new t.topology kind name config automatic shape.order)
              ∙ other
              ∙ sym (ap (λ o. option_map_or (λ (x : Geom Config). is_granted_kind x.kind) o false)
              (no_geom t counted shape.order t.room)))
          | inr apart ↦
              ap (λ o. option_map_or (λ (x : Geom Config). is_granted_kind x.kind) o false)
              (added-geom.others t.topology kind name config automatic g apart)
        ]

    -- and so is what each consumer is granted
    geom-granted : (c : ℕ) → granted_by raised c ≡ granted_by t c
    geom-granted c = search (rules, holds-same)

    -- nothing else has come yet
    pub geom-more : IsMore t raised []
    geom-more = record {
      counted = kept_counted t raised counted
          (geom_kept t counted shape.order t.room kind name config automatic other shape.ranked
          shape.parts);
      quiet = record { risen = quiet.risen; fallen = quiet.fallen };
      order = added-geom.order t.topology kind name config automatic shape.order;
      live = shape.parts.providers;
      granted = geom-granted;
      consumers = sym (append-nil (map (λ (x : Consumer). x.number) t.topology.consumers));
      active = sym (append-nil t.active);
    }

    -- the geom is bare
    pub geom-bare : IsBare raised.topology t.topology.next_geom
    geom-bare = record {
      item = new_geom t.topology kind name config automatic;
      found = added-geom.new t.topology kind name config automatic shape.order;
      kind = other;
      none = bare_of t.topology.providers t.topology.next_geom
          (λ y here same.
          none-there (geom_at t.topology t.topology.next_geom) (no_geom t counted shape.order t.room)
          (subst (λ n. IsSome (geom_at t.topology n)) same
          (All-contains (λ (x : Provider). IsSome (geom_at t.topology x.geom)) t.topology.providers y
          shape.parts.offerers here)));
    }

-- A consumer of a bare geom

module _ (t m : TopoView Config) (cs : List ℕ) (is : IsMore t m cs) (geom p : ℕ) (bare : IsBare m.topology geom)
    (there : IsSome (provider_at m.topology p)) where
  -- the next number
  abbrev n : ℕ
  n = m.topology.next_consumer

  attached-more : IsMore t (with_attached m geom p) (cs ++ n ∷ [])
  attached-more = record {
    counted = kept_counted m (with_attached m geom p) is.counted
        (consumer_kept m is.counted is.order m.room geom p (bare_quiet (granted_by m) m.topology geom p bare));
    quiet = record { risen = is.quiet.risen; fallen = is.quiet.fallen };
    order = added-consumer.order m.topology geom (Some p) is.order;
    live = All-push (λ (c : Consumer). IfSome c.provider (λ q. IsSome (provider_at m.topology q)))
        m.topology.consumers (new_consumer m.topology geom (Some p)) is.live there;
    granted = λ c.
        comers_hold_nothing m geom p is.counted (no_consumer m is.counted is.order m.room) c ∙ is.granted c;
    consumers =
        map-append (λ (x : Consumer). x.number) m.topology.consumers (new_consumer m.topology geom (Some p) ∷ [])
        ∙ ap (λ ns. ns ++ n ∷ []) is.consumers
        ∙ append_assoc (map (λ (x : Consumer). x.number) t.topology.consumers) cs (n ∷ []);
    active =
        ap (λ rows. rows ++ no_row n ∷ []) is.active
        ∙ append_assoc t.active (map no_row cs) (no_row n ∷ [])
        ∙ ap (λ rows. t.active ++ rows) (sym (map-append no_row cs (n ∷ [])));
  }

-- consumers at some providers
all-more : (t : TopoView Config) (geom : ℕ) (provs : List ℕ) (m : TopoView Config) (cs : List ℕ) → IsMore t m cs
    → IsBare m.topology geom → AllByRecursion (λ p. IsSome (provider_at m.topology p)) provs
    → IsMore t (with_all_attached m geom provs) (cs ++ numbers_for m.topology.next_consumer provs)
all-more t geom [] m cs is bare live = subst (IsMore t m) (sym (append-nil cs)) is
all-more t geom (p ∷ ps) m cs is bare live =
    search (
      rules,
      append_assoc cs,
      all-more t geom ps (with_attached m geom p),
      attached-more t m cs is geom p bare live.0,
    )

-- what each of them leaves as it was
all-same : {X : Type 0} (read : Topology Config → X) (geom : ℕ)
    → ((m : TopoView Config) (p : ℕ) → read (with_attached m geom p).topology ≡ read m.topology) → (provs : List ℕ)
    (m : TopoView Config) → read (with_all_attached m geom provs).topology ≡ read m.topology
all-same read geom same [] m = refl
all-same read geom same (p ∷ ps) m = all-same read geom same ps (with_attached m geom p) ∙ same m p

-- A provider

-- no note is set at one more
noted_more : (m : TopoView Config) (geom : ℕ) (name : List ℕ) (size sector : ℕ) (rows : List (ℕ × Bool))
    → rows ≡ map (λ (p : Provider). (p.number, false)) m.topology.providers
    → rows ++ (m.topology.next_provider, false) ∷ []
    ≡ map (λ (p : Provider). (p.number, false)) (add_provider m.topology geom name size sector).providers
noted_more m geom name size sector rows e =
    ap (λ (rs : List (ℕ × Bool)). rs ++ (m.topology.next_provider, false) ∷ []) e
    ∙ sym (map-append (λ (p : Provider). let r : ℕ × Bool = (p.number, false) in r) m.topology.providers
    (new_provider m.topology geom name size sector ∷ []))

module _ (t m : TopoView Config) (cs : List ℕ) (is : IsMore t m cs) (geom : ℕ) (name : List ℕ) (size sector : ℕ) where
  -- the graph with it
  abbrev u : Topology Config
  u = add_provider m.topology geom name size sector

  -- what lived lives
  lives : (o : Option ℕ) → IfSome o (λ p. IsSome (provider_at m.topology p)) → IfSome o (λ p. IsSome (provider_at u p))
  lives None nothing = tt
  lives (Some p) there =
      found-still (λ (x : Provider). x.number == p) m.topology.providers (new_provider m.topology geom name size sector)
      there

  provider-more : IsMore t (with_provider m geom name size sector) cs
  provider-more = record {
    counted = kept_counted m (with_provider m geom name size sector) is.counted
        (provider_kept m is.counted is.order m.room geom name size sector is.live);
    quiet = record {
      risen = noted_more m geom name size sector m.risen is.quiet.risen;
      fallen = noted_more m geom name size sector m.fallen is.quiet.fallen;
    };
    order = added-provider.order m.topology geom name size sector is.order;
    live = All-weaker (λ (c : Consumer). IfSome c.provider (λ p. IsSome (provider_at m.topology p)))
        (λ (c : Consumer). IfSome c.provider (λ p. IsSome (provider_at u p)))
        (λ c. lives c.provider) m.topology.consumers is.live;
    granted = is.granted;
    consumers = is.consumers;
    active = is.active;
  }

-- All of it

-- all counts are kept, and this is what comes
pub record IsRisen (t u : TopoView Config) (config : Config) (provs : List ℕ) : Type 0 where
  pub counted : IsCounted u
  pub quiet : IsQuiet u
  pub granted : (c : ℕ) → granted_by u c ≡ granted_by t c
  pub came : HasComers t u (record {
    consumers = numbers_for t.topology.next_consumer provs;
    geoms = (t.topology.next_geom, disk_of config) ∷ [];
    providers = (t.topology.next_provider, t.topology.next_geom) ∷ [];
  })

module _ (t : TopoView Config) (counted : IsCounted t) (quiet : IsQuiet t) (shape : HasShape t.topology)
    (kind : Kind) (name : List ℕ) (config : Config) (other : is_granted_kind kind ≡ false) (provs : List ℕ)
    (live : AllByRecursion (λ p. IsSome (provider_at t.topology p)) provs) (offered : List ℕ) (size sector : ℕ)
    (room : Room) where
  -- the geom's number, and the mesh with the geom, its consumers and its provider
  abbrev g : ℕ
  g = t.topology.next_geom

  abbrev over : TopoView Config
  over = with_geom_on t kind name config false provs

  abbrev last : TopoView Config
  last = with_provider over g offered size sector

  -- what its consumers leave as it was
  stay : {X : Type 0} (read : Topology Config → X)
      → ((m : TopoView Config) (p : ℕ) → read (with_attached m g p).topology ≡ read m.topology)
      → read over.topology ≡ read (with_geom t kind name config false).topology
  stay read same = all-same read g same provs (with_geom t kind name config false)

  more : IsMore t last (numbers_for t.topology.next_consumer provs)
  more =
      provider-more t over (numbers_for t.topology.next_consumer provs)
      (all-more t g provs (with_geom t kind name config false) []
      (geom-more t counted quiet shape kind name config false other)
      (geom-bare t counted quiet shape kind name config false other) live)
      g offered size sector

  pub risen : IsRisen t (record last { room = room }) config provs
  risen = record {
    counted = room_counted last room more.counted;
    quiet = record { risen = more.quiet.risen; fallen = more.quiet.fallen };
    granted = more.granted;
    came = record {
      consumers = more.consumers;
      active = more.active;
      geoms =
          ap (map disk_row) (stay (λ v. v.geoms) (λ k p. refl))
          ∙ map-append disk_row t.topology.geoms (new_geom t.topology kind name config false ∷ []);
      providers =
          map-append owner_row over.topology.providers (new_provider over.topology g offered size sector ∷ [])
          ∙ ap (λ (ps : List Provider). map owner_row ps ++ (over.topology.next_provider, g) ∷ [])
          (stay (λ v. v.providers) (λ k p. refl))
          ∙ ap (λ n. let row : ℕ × ℕ = (n, g) in map owner_row t.topology.providers ++ row ∷ [])
          (stay (λ v. v.next_provider) (λ k p. refl));
    };
  }

-- A state in which a geom came with its provider: what it stands for, and that all is kept

-- Once room for events was reserved

module _ (s r : State) (rest : r ≡ record s { queue = r.queue }) (events : r.queue.events ≡ s.queue.events) where
  -- the graph is the same
  pub roomy-graph : r.topo.topology ≡ s.topo.topology
  roomy-graph = ap (λ (z : State). z.topo.topology) rest

  module _ (u : TopoView Config) (q : Queued) (same : AreBoth u q (both r.topo r.queue)) where
    -- where none came, all is kept
    pub roomy-kept : Holds r → r.queue.spare ≤ q.spare + 1 → 3 * length s.topo.topology.providers + 128 ≤ r.queue.spare
        → Holds (record r { topo = u; queue = q })
    roomy-kept kept spare room =
        let few : owed_events r.topo ≤ 2 * length r.topo.topology.providers = owed_are_few r.topo kept.counted in
        let as_many : length r.topo.topology.providers ≡ length s.topo.topology.providers =
        ap (λ (t : Topology Config). length t.providers) roomy-graph in
        subst (λ (t : TopoView Config). Holds (record r { topo = t; queue = q })) (sym same.mesh)
        (holds_after_effects r (record r.topo { room = u.room }) q kept (parts-self r.topo.topology) refl (λ c. refl)
        (room_counted r.topo u.room kept.counted)
        (record { risen = kept.quiet.risen; fallen = kept.quiet.fallen })
        (omega (arith, few, as_many, spare, room)))

-- Once a geom came

-- nothing is kept yet of numbers from the next one on
fresh-from : (s : State) → Holds s → IsInOrder s.topo.topology → (ps : List ℕ) (n : ℕ)
    → s.topo.topology.next_consumer ≤ n → AreFresh s.topo (numbers_for n ps)
fresh-from s kept order [] n past = tt
fresh-from s kept order (p ∷ ps) n past =
    search (rules, unknown-from s kept order n past, fresh-from s kept order ps (n + 1) (omega arith))

-- what new consumers can be attached to is there
all-there : (t : Topology Config) (ps : List ℕ) → AllByRecursion (CanStandOn t) ps
    → AllByRecursion (λ p. IsSome (provider_at t p)) ps
all-there t [] stand = tt
all-there t (p ∷ ps) stand = (
  there_with_fact (λ (x : Provider). (x.errored ≡ false) × (rank t x.geom < MAX_RANK)) (provider_at t p) stand.0,
  all-there t ps stand.1,
)

module _ (s new : State) (geom : NewGeom) (below : List ℕ) (x : Offer) (grown : HasGrown s new geom below x) where
  -- the mesh with it, and its events
  abbrev made : QueuedMesh
  made = built s geom below x

  -- the world that it stands for
  pub grown-world : (actors : List (List LineCommand)) (log : List Entry)
      → world actors log new ≡ with_queued (world actors log s) (queued made)
  grown-world actors log =
      search (rules, ap (world actors log) grown.rest, ap (λ (v : TopoView Config). v.topology) grown.made.mesh)

  module _ (stands : Stands s) (kind : is_granted_kind geom.kind ≡ false)
      (stand : All (CanStandOn s.topo.topology) below) where
    -- what came
    pub grown-risen : IsRisen s.topo new.topo geom.config below
    grown-risen =
        subst (λ (v : TopoView Config). IsRisen s.topo v geom.config below) (sym grown.made.mesh)
        (risen s.topo stands.kept.counted stands.kept.quiet (firm_shape s stands.firm) geom.kind geom.name geom.config
        kind below
        (all-there s.topo.topology below (recursion_from_All (CanStandOn s.topo.topology) below stand))
        x.name x.size x.sector new.topo.room)

    -- the queue has the places that are owed
    pub grown-settled : IsSettled new.topo new.queue
    grown-settled = record {
      counted = grown-risen.counted;
      quiet = grown-risen.quiet;
      room =
          let few : owed_events new.topo ≤ 2 * length new.topo.topology.providers =
          owed_are_few new.topo grown-risen.counted in
          let one_more : length new.topo.topology.providers ≡ length s.topo.topology.providers + 1 =
          sym (length-map new.topo.topology.providers _)
          ∙ ap (λ (rows : List (ℕ × ℕ)). length rows) grown-risen.came.providers
          ∙ length-append _ _
          ∙ ap (λ n. n + 1) (length-map s.topo.topology.providers _) in
          let room = grown.room in
          omega (arith, few, one_more, room);
    }

    -- all is kept, where the geom is of no disk
    pub grown-kept : disk_of geom.config ≡ None → Holds new
    grown-kept none =
        subst Holds (sym grown.rest)
        (kept_with_sites.comers stands.firm.0 s new.topo new.queue s.taste
        (record {
          consumers = numbers_for s.topo.topology.next_consumer below;
          geoms = (s.topo.topology.next_geom, disk_of geom.config) ∷ [];
          providers = (s.topo.topology.next_provider, s.topo.topology.next_geom) ∷ [];
        })
        stands.kept stands.firm.1 grown-risen.came
        (fresh-from s stands.kept (firm-order stands.firm.0 s stands.firm.1) below s.topo.topology.next_consumer
        (omega arith))
        (none, tt)
        (λ c. grown-risen.granted c ∙ ap (λ (G : ℕ → _). G c) stands.kept.grants)
        grown-settled)

-- A disk that stands as a DISK geom

-- Sizes

-- a media size is the size of a provider
pub media_size : (size sector : ℕ) → IsSectorSize sector → IsMediaSize size sector
    → is_provider_size size sector ≡ true
media_size size sector which media =
    search (
      rules,
      eq-eqb sector 512,
      le-leb 1 size media.positive,
      le-leb size MAX_MEDIA_BYTES media.limited,
      eq-eqb (size % sector) 0 media.whole,
      eq-eqb sector 4096,
    )

module _ (s : State) (disk : ℕ) (seat : DiskSeat) (at : slice_get s.disks.items disk ≡ Some seat) where
  -- a disk of the header has the sizes of a provider
  pub disk-size : IsFirm s → is_provider_size seat.size seat.sector ≡ true
  disk-size firm =
      let fits : IsHeaderDisk (disk_of_seat seat) =
      All-contains IsHeaderDisk (map disk_of_seat s.disks.items) (disk_of_seat seat) firm.1.1.sizes.disks
      (Contains-map disk_of_seat s.disks.items seat (slot-contained s.disks.items disk seat at)) in
      media_size seat.size seat.sector fits.sector fits.size

  -- its name is free
  pub seat-free : IfSome (slice_get s.disks.items disk) (λ (x : DiskSeat). is_name_taken s.topo.topology x.name ≡ false)
      → is_name_taken s.topo.topology seat.name ≡ false
  seat-free free = subst (λ o. IfSome o (λ (x : DiskSeat). is_name_taken s.topo.topology x.name ≡ false)) at free

  -- the disks of the header stay, whatever geom stands for one
  same-disks : (geom : Option ℕ)
      → map disk_of_seat (with_disk_geom s.disks.items disk geom) ≡ map disk_of_seat s.disks.items
  same-disks geom = search (rules, slot-seen disk_of_seat s.disks.items disk (record seat { geom = geom }) seat)

  module _ (g new : State) (config : Config) (is : config ≡ Disk disk) (id : ℕ)
      (number : id ≡ s.topo.topology.next_geom)
      (grown : HasGrown s g (record { kind = kinds.Disk; name = seat.name; config = config }) []
      (record { name = seat.name; size = seat.size; sector = seat.sector }))
      (seats : new.disks.items ≡ with_disk_geom g.disks.items disk (Some id))
      (rest : new ≡ record g { disks = new.disks }) where
    -- the geom, and its provider
    abbrev geom : NewGeom
    geom = record { kind = kinds.Disk; name = seat.name; config = config }

    abbrev offer : Offer
    offer = record { name = seat.name; size = seat.size; sector = seat.sector }

    -- the seats, by those before
    seats-now : new.disks.items ≡ with_disk_geom s.disks.items disk (Some s.topo.topology.next_geom)
    seats-now =
        seats
        ∙ ap (λ (z : State). with_disk_geom z.disks.items disk (Some id)) grown.rest
        ∙ ap (λ n. with_disk_geom s.disks.items disk (Some n)) number

    -- what is made
    same-made : (actors : List (List LineCommand)) (log : List Entry)
        → with_queued (world actors log s) (queued
        (built s geom [] offer))
        ≡ stand (world actors log s) (item_at disk seat)
    same-made actors log =
        ap (λ c. with_queued (world actors log s) (queued
        (built s (record { kind = kinds.Disk; name = seat.name; config = c }) [] offer))) is
        ∙ ap (with_queued (world actors log s)) (makes_as_model.disk (both s.topo s.queue) disk (disk_of_seat seat))

    -- the world that it stands for
    stood-world : (actors : List (List LineCommand)) (log : List Entry)
        → world actors log new ≡ stand (world actors log s) (item_at disk seat)
    stood-world actors log =
        ap (world actors log) rest
        ∙ (λ i. record (world actors log g) {
          disks = (ap (map disk_of_seat) seats-now ∙ same-disks (Some s.topo.topology.next_geom)
              ∙ ap (λ (z : State). map disk_of_seat z.disks.items) (sym grown.rest)) i;
        })
        ∙ grown-world s g geom [] offer grown actors log
        ∙ same-made actors log

    -- so for the one seat of the disk
    pub stood-told : (actors : List (List LineCommand)) (log : List Entry)
        → IfSome (slice_get s.disks.items disk) (λ (x : DiskSeat).
        world actors log new ≡ stand (world actors log s) (item_at disk x))
    stood-told actors log = search (rules, stood-world actors log)

    -- and all is kept
    pub stood-kept : Stands s → geom_of_disk s.topo.topology disk ≡ None → Holds new
    stood-kept stands absent =
        let none : All (CanStandOn s.topo.topology) [] =
        All-from_recursion (CanStandOn s.topo.topology) [] tt in
        let came = grown-risen s g geom [] offer grown stands refl none in
        let settled = grown-settled s g geom [] offer grown stands refl none in
        let topo : new.topo ≡ g.topo = ap (λ (z : State). z.topo) rest in
        let queue : new.queue ≡ g.queue = ap (λ (z : State). z.queue) rest in
        kept_with_sites.inserted stands.firm.0 s new disk s.topo.topology.next_geom s.topo.topology.next_provider
        stands.kept stands.firm.1
        (subst (λ (v : TopoView Config). HasComers s.topo v (record {
          consumers = [];
          geoms = (s.topo.topology.next_geom, Some disk) ∷ [];
          providers = (s.topo.topology.next_provider, s.topo.topology.next_geom) ∷ [];
        })) (sym topo)
        (subst (λ c. HasComers s.topo g.topo (record {
          consumers = [];
          geoms = (s.topo.topology.next_geom, disk_of c) ∷ [];
          providers = (s.topo.topology.next_provider, s.topo.topology.next_geom) ∷ [];
        })) is came.came))
        absent
        (λ c. ap (λ (v : TopoView Config). granted_by v c) topo ∙ came.granted c)
        (subst (λ (v : TopoView Config). IsSettled v new.queue) (sym topo)
        (subst (λ (q : Queued). IsSettled g.topo q) (sym queue) settled))
        seats-now
        (rest ∙ (λ i. record (grown.rest i) { disks = new.disks }) ∙ (λ i. record s {
          topo = (sym topo) i;
          queue = (sym queue) i;
          disks = new.disks;
          providers = s.providers + 1;
        }))
