-- A concat that has one more component: counts, and its provider that grows.
use Rattle.std.specs.Prelude.{◌≡◌, ℕ, ◌==◌, Bool, true, false, Option, Some, None, unwrap_or, if◌then◌else◌, ◌+◌, ◌-◌, ◌≤◌, [], ◌∷◌, ◌++◌, ◌*◌, not, ◌&&◌, List, length, map, filter, Contains, IsSome, IfSome}
use Rattle.std.specs.Option.{option_map_or}
use Rattle.std.proofs.Common.{refl, sym, ◌∙◌, ap, subst, arith, rules}
use Rattle.geo_base.specs.declared.request.Counts.{Counts}
use Rattle.geo_model.specs.Words.{is_granted_kind}
use Rattle.geo_model.specs.Topology.{Topology, Geom, Provider, Consumer, attach, set_config, set_size, geom_at, provider_at, add_consumer}
use Rattle.geo_model.specs.Graph.{IsInOrder}
use Rattle.geo_model.specs.Demand.{no_counts, have, want, risen}
use Rattle.geo_model.specs.World.{Config, World, granted_of}
use Rattle.geo_slots.specs.Slots.{value_at}
use Rattle.geo_mesh.specs.declared.records.Scratch.{Scratch}
use Rattle.geo_mesh.specs.Topo.{TopoView, no_scratch, with_topology, is_provider_size, with_consumer}
use Rattle.geo_laws_graph.proofs.Lists.{changed, changed-keeps, find-changed, map-changed, found_itself}
use Rattle.geo_laws_graph.proofs.Numbered.{number_found}
use Rattle.geo_laws_graph.proofs.Found.{config-found, added-consumer}
use Rattle.geo_laws_counts.proofs.Unseen.{unseen_size}
use Rattle.geo_laws_counts.proofs.Openers.{wants_grant}
use Rattle.geo_access.specs.Access.{IsCounted, clear_scratches, granted_by, holds_grants, noted}
use Rattle.geo_access.specs.Join.{joined_view}
use Rattle.geo_access.proofs.Decided.{item_at}
use Rattle.geo_moves.proofs.Adding.{among, config_kept, stood}
use Rattle.geo_moves.proofs.Kept.{KeepsCounts, holds_of, kept_counted}
use Rattle.geo_moves.specs.declared.names.Growing.{Growing}
use Rattle.geo_moves.specs.Appends.{larger, larger_mesh, IsLarger, HasJoined, IsAble, IsAppended}
use Rattle.geo_state.proofs.Lists.{found-changed}
use Rattle.geo_model.specs.declared.step.Event.TheVariants as events
use Rattle.geo_model.specs.Events.{announce_risen, post, QueuedTopology}
use Rattle.geo_event.specs.EventQueue.{Queued}
use Rattle.geo_life.specs.Life.{AreStored, CountsStay, RestStays, notes, queued, without_rises, IsDevMade}
use Rattle.std.specs.List.{AllByRecursion}
use Rattle.std.proofs.lemmas.Bool.{eqb-true}
use Rattle.std.proofs.lemmas.List.{append-nil, map-append}
use Rattle.std.proofs.lemmas.List.Elements.{All-contains}
use Rattle.geo_model.proofs.FirmLemmas.{sound_of, steady_of}
use Rattle.geo_moves.proofs.Holding.{rises_counted}
use Rattle.geo_moves.proofs.Finding.{none_against}
use Rattle.geo_base.specs.Sectors.{IsSectorSize}
use Rattle.geo_model.specs.declared.command.LineCommand.{LineCommand}
use Rattle.geo_model.specs.declared.step.Entry.{Entry}
use Rattle.geo_model.specs.Place.{disk_of}
use Rattle.geo_model.specs.WorldEvents.{with_queued}
use Rattle.geo_model.specs.Acceptance.{add_place}
use Rattle.geo_model.specs.Append.{Growing as GrowingConcat, append_tests, component_refusal, with_component}
use Rattle.geo_model.specs.Sound.{IsMediaSize}
use Rattle.geo_model.specs.Fitting.{Firm}
use Rattle.geo_laws_graph.proofs.Members.{All-from_contained, find-Contains}
use Rattle.geo_laws_graph.proofs.TwoChanges.{two-changes}
use Rattle.geo_laws_counts.specs.CountWords.{DemandStays, AnyConsumer}
use Rattle.geo_laws_counts.proofs.Stays.{consumer_came}
use Rattle.geo_laws_growth.specs.GrowthLaws.{grown}
use Rattle.geo_laws_growth.proofs.Grown.{grown_is_found, growth_is_not_seen}
use Rattle.geo_laws_growth.proofs.GrownPlaces.{keeps_places}
use Rattle.geo_laws_life.proofs.Found.{one-found, some-there}
use Rattle.geo_laws_making.proofs.Over.{false_true}
use Rattle.geo_laws_making.proofs.Concats.{IsStanding}
use Rattle.geo_laws_making.proofs.Larger.{larger-firm, valid_from}
use Rattle.geo_life.proofs.Places.{counts_are_stored, places_are_few}
use Rattle.geo_life.proofs.Spared.{handles_are_spared}
use Rattle.geo_state.specs.declared.state.State.{State}
use Rattle.geo_state.specs.Changes.{IsSettled}
use Rattle.geo_state.specs.Holds.{Holds}
use Rattle.geo_state.specs.Parts.{SameParts, disk_row, owner_row}
use Rattle.geo_state.specs.Sites.{HasComers}
use Rattle.geo_state.specs.Steps.{Stands}
use Rattle.geo_state.specs.World.{world}
use Rattle.geo_state.proofs.FirmLemmas.{firm-order}
use Rattle.geo_state.proofs.Frames.{parts-config, parts-count, parts-risen, parts-size, parts-trans}
use Rattle.geo_state.proofs.OwedLemmas.{owed_are_few}
use Rattle.geo_state.proofs.SiteLemmas.{kept_with_sites}
use Rattle.geo_moves.specs.declared.below.Below.{Below}
use Rattle.geo_moves.specs.Names.{growing_seen}
use Rattle.geo_moves.proofs.Appending.{loose-grants, named-stands}
use Rattle.geo_moves.proofs.Admitting.{next-unknown}
use Rattle.geo_moves.proofs.Grown.{media_size}
use Rattle.geo_base.proofs.Options.{if-with}

-- Another configuration of a geom and another size of a provider leave all counts as they are

-- Counts

module _ {C : Type 0} (t : TopoView C) (counted : IsCounted t) (order : IsInOrder t.topology) (p size : ℕ) where
  -- whether it is the provider, and what becomes of it
  abbrev hit : Provider → Bool
  hit y = y.number == p

  abbrev resized : Provider → Provider
  resized y = record y { size = size }

  -- another size of a provider leaves all counts
  size_kept : KeepsCounts t (with_topology t (set_size t.topology p size))
  size_kept =
      search (
        rules,
        order,
        map-changed hit resized
            (λ (y : Provider). let row : ℕ × Counts = (y.number, have (granted_by t) t.topology y.number) in row)
            (λ y e. refl) t.topology.providers,
        among (granted_by t) t.topology (set_size t.topology p size) t.topology.consumers
            (unseen_size (granted_by t) t.topology p size),
        stood t counted order t.room,
        map-changed hit resized (λ (y : Provider). y.number) (λ y e. refl) t.topology.providers,
        ap (λ rows. record (clear_scratches t.topology) { providers = rows })
            (sym
            (map-changed hit resized (λ (y : Provider). let row : ℕ × Scratch = (y.number, no_scratch) in row)
            (λ y e. refl) t.topology.providers)),
        map-changed hit resized (λ (y : Provider). let row : ℕ × Scratch = (y.number, no_scratch) in row) (λ y e. refl)
            t.topology.providers,
      )

module _ (t : TopoView Config) (counted : IsCounted t) (order : IsInOrder t.topology) (x : Growing) (config : Config)
    (size : ℕ) where
  -- the mesh with the configuration
  abbrev configured : TopoView Config
  configured = with_topology t (set_config t.topology x.geom config)

  -- it is counted
  configured_counted : IsCounted configured
  configured_counted = kept_counted t configured counted (config_kept t counted order t.room x.geom config)

  -- and so is the larger one
  pub larger_counted : IsCounted (larger_mesh t x config size)
  larger_counted =
      kept_counted configured (larger_mesh t x config size) configured_counted
      (size_kept configured configured_counted (config-found.order t.topology x.geom config order) x.prov size)

  -- whether a geom holds grants is as it was
  holds_same : (g : ℕ) → holds_grants (larger t.topology x config size) g ≡ holds_grants t.topology g
  holds_same g =
      found-changed (λ (y : Geom Config). y.number == x.geom) (λ y. record y { config = config }) (λ y. y.number == g)
      (λ o. option_map_or (λ (y : Geom Config). is_granted_kind y.kind) o false) (λ y e. refl) (λ y e. refl)
      t.topology.geoms

  -- so grants are the same
  pub larger_granted : (n : ℕ) → granted_by (larger_mesh t x config size) n ≡ granted_by t n
  larger_granted n = search (rules, holds_same)

-- Grants

module _ {C : Type 0} (t : TopoView C) (cons p : ℕ) where
  -- the graph with the consumer at the provider
  abbrev joined_graph : Topology C
  joined_graph = attach t.topology cons p

  -- what is granted to a consumer that is found, by the stored counts of its number
  abbrev seen : Option Counts → Option Consumer → Counts
  seen w o =
      option_map_or (λ (x : Consumer). if holds_grants t.topology x.geom then unwrap_or w no_counts else no_counts) o
      no_counts

  abbrev joiner : Consumer → Bool
  joiner c = c.number == cons

  abbrev joining : Consumer → Consumer
  joining c = record c { provider = Some p }

  -- a consumer that joins leaves all grants
  pub joined_granted : (n : ℕ) → granted_by (joined_view t cons p) n ≡ granted_by t n
  joined_granted n =
      search (
        rules,
        found-changed joiner joining (λ (c : Consumer). c.number == n) (seen (value_at (joined_view t cons p).wants n))
            (λ c e. refl) (λ c e. refl) t.topology.consumers,
        changed joiner joining,
        changed-keeps joiner joining (λ (c : Consumer). c.geom) (λ c e. refl),
        find-changed joiner joining (λ (c : Consumer). c.number == n) (λ c e. refl) t.topology.consumers,
        item_at (λ (c : Consumer). c.number) (want (granted_by t) joined_graph) n joined_graph.consumers,
        wants_grant (granted_by t) joined_graph,
        holds_of joined_graph,
        number_found (λ (c : Consumer). c.number) joined_graph.consumers n,
      )

-- A provider that grows with its geom: what is announced of it

-- what rises in a mesh was announced
record IsAnnounced (b : TopoView Config) (q : Queued) (new : TopoView Config) (mid : Queued) : Type 0 where
  told : (granted : ℕ → Counts) → AreStored granted b
      → queued new mid ≡ announce_risen granted (noted b.risen) (queued b q)
  rest : RestStays (without_rises b) q new mid
  room : mid.spare + notes b.risen ≡ q.spare
  kept : CountsStay (without_rises b) new

module _ (t : TopoView Config) (q : Queued) (x : Growing) (config : Config) (size : ℕ) where
  -- the mesh is the larger one
  pub larger-is : (a b : TopoView Config) → a ≡ with_topology t (set_config t.topology x.geom config)
      → b ≡ with_topology a (set_size a.topology x.prov size) → b ≡ larger_mesh t x config size
  larger-is a b swapped sized =
      sized ∙ ap (λ (v : TopoView Config). with_topology v (set_size v.topology x.prov size)) swapped

  module _ (new : TopoView Config) (mid queue : Queued)
      (posted : queue ≡ record { events = mid.events ++ events.Resize x.prov ∷ []; spare = mid.spare - 1 })
      (enough : notes t.risen + 1 ≤ q.spare) where
    -- once Resize is posted too
    announced-larger : IsAnnounced (larger_mesh t x config size) q new mid → IsLarger t q x config size new queue
    announced-larger is = record {
      announced = λ granted stored.
          ap (λ (z : Queued). record { topology = new.topology; events = z.events }) posted
          ∙ ap (λ z. post z (events.Resize x.prov)) (is.told granted stored);
      mesh = is.rest.mesh;
      kept = is.kept;
      room =
          search (rules, ap (λ (z : Queued). z.spare) posted);
    }

    pub is-larger : (b : TopoView Config) → b ≡ larger_mesh t x config size
        → ((granted : ℕ → Counts) → AreStored granted b
        → queued new mid ≡ announce_risen granted (noted b.risen) (queued b q))
        → RestStays (without_rises b) q new mid → mid.spare + notes b.risen ≡ q.spare
        → CountsStay (without_rises b) new → IsLarger t q x config size new queue
    is-larger b same told rest room kept =
        announced-larger
        (subst (λ (v : TopoView Config). IsAnnounced v q new mid) same
        (record { told = told; rest = rest; room = room; kept = kept }))

-- A concat that has one more component: its new consumer has joined a provider, and its own provider has grown

-- what the growth of a provider asks
pub record MayGrow (v : TopoView Config) (q : Queued) (g : Growing) (config : Config) (size : ℕ) : Type 0 where
  pub stands : IsSome (geom_at v.topology g.geom)
  pub lives : IsSome (provider_at v.topology g.prov)
  pub sectors : IfSome (provider_at v.topology g.prov) (λ y. is_provider_size size y.sector ≡ true)
  pub grows : IfSome (provider_at v.topology g.prov) (λ y. y.size ≤ size)
  pub made : IsDevMade (larger_mesh v g config size).topology
  pub counted : IsCounted (larger_mesh v g config size)
  pub room : notes v.risen + 1 ≤ q.spare

-- An append that no test is against

module _ (s : State) (stands : Stands s) (growing : Growing) (below : Below) (able : IsAble s growing below)
    (none : (actors : List (List LineCommand)) (log : List Entry)
    → None ≡ component_refusal (world actors log s) able.named.concat able.named.provider) where
  -- the concat and the provider, and the world and the graph before
  abbrev x : GrowingConcat
  x = able.named.concat

  abbrev q : Provider
  q = able.named.provider

  abbrev w : World
  w = world stands.firm.1.0 stands.firm.0 s

  abbrev t : Topology Config
  t = s.topo.topology

  -- what is granted
  abbrev granted : ℕ → Counts
  granted = granted_of s.handles.handles s.taste

  -- the number of the geom, and of its new consumer
  abbrev n : ℕ
  n = x.geom.number

  abbrev next : ℕ
  next = t.next_consumer

  -- the graph with the consumer, which isn't attached yet; with it attached; with the configuration; and in the end
  abbrev bare : Topology Config
  bare = add_consumer t n None

  abbrev added : Topology Config
  added = add_consumer t n (Some q.number)

  abbrev longer : Config
  longer = add_place x.geom.config next q.size

  abbrev placed : Topology Config
  placed = set_config added n longer

  abbrev u : Topology Config
  u = grown w x q

  order : IsInOrder t
  order = firm-order stands.firm.0 s stands.firm.1

  -- the concat stands
  standing : IsStanding t x
  standing = named-stands order able.named

  -- the world with the component is firm
  grown_firm : Firm (with_component w x q)
  grown_firm =
      let fails = none_against (append_tests w x q) (able.free stands.firm.1.0 stands.firm.0) in
      larger-firm w x q stands.firm.1.1 standing able.named.found (valid_from t x q fails.0) fails.1.0
      (sym (none stands.firm.1.0 stands.firm.0))

  -- the provider of the concat is found with its new size, which is one
  grown_size : is_provider_size (x.provider.size + q.size) x.provider.sector ≡ true
  grown_size =
      let y : Provider = record x.provider { size = x.provider.size + q.size } in
      let here : Contains u.providers y =
      find-Contains (λ (z : Provider). z.number == x.provider.number) u.providers y
      (grown_is_found.provider w x q standing.found) in
      media_size y.size y.sector
      (All-contains (λ (z : Provider). IsSectorSize z.sector) u.providers y grown_firm.sizes.sectors here)
      (All-contains (λ (z : Provider). IsMediaSize z.size z.sector) u.providers y grown_firm.graph.providers.sizes here)

  -- Counts in the end are those with the consumer alone

  came : DemandStays granted t granted bare AnyConsumer
  came = consumer_came granted t n None (λ some. false_true some)

  growth : DemandStays granted added granted u AnyConsumer
  growth = growth_is_not_seen.counts w x q granted

  -- each geom, provider and consumer is where it was, and the new consumer behind

  same_disk : AllByRecursion (λ (y : Geom Config). (y.number == n) ≡ true → disk_of y.config ≡ disk_of longer) t.geoms
  same_disk =
      All-from_contained (λ (y : Geom Config). (y.number == n) ≡ true → disk_of y.config ≡ disk_of longer) t.geoms
      (λ y here same.
      let at : geom_at t n ≡ Some y =
      subst (λ k. geom_at t k ≡ Some y) (eqb-true y.number n same)
      (found_itself (λ (z : Geom Config). z.number) t.next_geom t.geoms y order.geoms here) in
      ap (λ (z : Geom Config). disk_of z.config) (one-found (geom_at t n) y x.geom at standing.found.geom)
      ∙ sym (keeps_places x.geom.config next q.size).disk)

  grown_parts : SameParts added u
  grown_parts =
      parts-trans added placed u (parts-config added n longer same_disk)
      (parts-size placed x.provider.number (x.provider.size + q.size))

  -- The consumer has joined

  module _ (j : State) (rest : j ≡ record s { topo = j.topo })
      (joined_as : HasJoined s.topo growing.geom below.prov j.topo) where
    -- the mesh then
    abbrev v : TopoView Config
    v = j.topo

    -- the queue is as it was
    queue_is : j.queue ≡ s.queue
    queue_is = ap (λ (z : State). z.queue) rest

    -- the consumer is the concat's and joined the provider
    joined : HasJoined s.topo n q.number v
    joined =
        subst (λ k. HasJoined s.topo k q.number v) (ap (λ (z : Growing). z.geom) able.named.growing_is)
        (subst (λ k. HasJoined s.topo growing.geom k v) (ap (λ (z : Below). z.prov) able.named.below_is) joined_as)

    -- the graph is the one with it
    graph_is : v.topology ≡ added
    graph_is = ap (λ (z : TopoView Config). z.topology) joined.mesh ∙ two-changes.made t n q.number order

    joined_order : IsInOrder v.topology
    joined_order =
        subst (λ (z : Topology Config). IsInOrder z) (sym graph_is) (added-consumer.order t n (Some q.number) order)

    -- grants are as they were
    grants_are : (k : ℕ) → granted_by v k ≡ granted k
    grants_are k =
        ap (λ (z : TopoView Config). granted_by z k) joined.mesh
        ∙ joined_granted (with_consumer s.topo n) next q.number k
        ∙ ap (λ (G : ℕ → Counts). G k) (loose-grants s.topo order stands.kept.counted n ∙ stands.kept.grants)

    -- what is noted is what rises from the graph before to the one in the end
    rose : noted v.risen ≡ risen granted t granted u
    rose =
        joined.risen
        ∙ ap (λ (G : ℕ → Counts). risen G bare G v.topology)
        (loose-grants s.topo order stands.kept.counted n ∙ stands.kept.grants)
        ∙ ap (risen granted bare granted) graph_is
        ∙ ap (λ (f : ℕ → Counts). map (λ (y : Provider). y.number)
        (filter (λ (y : Provider). ((f y.number).w == 0) && not ((have granted added y.number).w == 0)) t.providers))
        (λ i k. came.haves k i)
        ∙ ap (λ (f : ℕ → Counts). map (λ (y : Provider). y.number)
        (filter (λ (y : Provider). ((have granted t y.number).w == 0) && not ((f y.number).w == 0)) t.providers))
        (λ i k. (sym (growth.haves k)) i)

    -- of each provider at most one note
    few_notes : notes v.risen ≤ length t.providers
    few_notes =
        subst (λ (z : Topology Config). notes v.risen ≤ length z.providers) graph_is
        (places_are_few.risen v joined.counted)

    -- The larger mesh

    module _ (config : Config) (config_is : config ≡ longer) (size : ℕ) (size_is : size ≡ x.provider.size + q.size)
      where
        -- the concat as it was found, and the mesh with its configuration and the size
        abbrev g : Growing
        g = growing_seen x

        abbrev mesh : TopoView Config
        mesh = larger_mesh v g config size

        mesh_graph : mesh.topology ≡ u
        mesh_graph =
            ap (λ (z : Topology Config). larger z g config size) graph_is
            ∙ ap (λ (k : Config). larger added g k size) config_is
            ∙ ap (larger added g longer) size_is

        mesh_counted : IsCounted mesh
        mesh_counted = larger_counted v joined.counted joined_order g config size

        mesh_stored : AreStored granted mesh
        mesh_stored =
            counts_are_stored mesh granted mesh_counted
            (λ k. sym (larger_granted v joined.counted joined_order g config size k ∙ grants_are k))

        offer_is : provider_at v.topology g.prov ≡ Some x.provider
        offer_is = ap (λ (z : Topology Config). provider_at z g.prov) graph_is ∙ standing.found.provider

        -- the provider may grow
        pub able_grows : 3 * length t.providers + 128 ≤ s.queue.spare → MayGrow v j.queue growing config size
        able_grows room =
            subst (λ (z : Queued). MayGrow v z growing config size) (sym queue_is)
            (subst (λ (k : Growing). MayGrow v s.queue k config size) (sym able.named.growing_is)
            (record {
              stands = some-there (geom_at v.topology g.geom) x.geom
                  (ap (λ (z : Topology Config). geom_at z g.geom) graph_is ∙ standing.found.geom);
              lives = some-there (provider_at v.topology g.prov) x.provider offer_is;
              sectors = if-with (provider_at v.topology g.prov) (λ y. is_provider_size size y.sector ≡ true) x.provider
                  offer_is (ap (λ k. is_provider_size k x.provider.sector) size_is ∙ grown_size);
              grows = if-with (provider_at v.topology g.prov) (λ y. y.size ≤ size) x.provider offer_is
                  (omega (arith, size_is));
              made = subst (λ (z : Topology Config). IsDevMade z) (sym mesh_graph)
                  (handles_are_spared.made (with_component w x q) (sound_of (with_component w x q) grown_firm)
                  (steady_of (with_component w x q) grown_firm));
              counted = mesh_counted;
              room = let few = few_notes in omega (arith, few, room);
            }))

        -- Once the provider has grown

        module _ (new : TopoView Config) (queue : Queued)
            (grew_as : IsLarger v j.queue growing config size new queue) where
          -- it grew as it was found
          grew : IsLarger v s.queue g config size new queue
          grew = search (rules, queue_is)

          -- all else is as it was
          end_is : record j { topo = new; queue = queue } ≡ record s { topo = new; queue = queue }
          end_is = ap (λ (z : State). record z { topo = new; queue = queue }) rest

          -- the graph and the queue are those of the model
          told : queued new queue
              ≡ post
              (announce_risen granted (risen granted t granted u) (record { topology = u; events = s.queue.events }))
              (events.Resize x.provider.number)
          told =
              grew.announced granted mesh_stored
              ∙ ap
              (λ ps. post (announce_risen granted ps (record { topology = mesh.topology; events = s.queue.events }))
              (events.Resize x.provider.number)) rose
              ∙ ap (λ (z : Topology Config). post (announce_risen granted (risen granted t granted u)
              (record { topology = z; events = s.queue.events })) (events.Resize x.provider.number)) mesh_graph

          -- so the component is appended
          pub able_told : (actors : List (List LineCommand)) (log : List Entry)
              → IsAppended (world actors log s) (world actors log (record j { topo = new; queue = queue })) x q None
          able_told actors log = record {
            refused = none actors log;
            made = λ line. ap (world actors log) end_is ∙ ap (with_queued (world actors log s)) told;
          }

          -- parts are where they were
          parts : SameParts added new.topology
          parts =
              parts-trans added u new.topology grown_parts
              (subst (λ (r : QueuedTopology Config). SameParts u r.topology) (sym told)
              (parts-risen granted (risen granted t granted u) (record { topology = u; events = s.queue.events })))

          -- and the consumer came
          comer_came : HasComers s.topo new (record { consumers = next ∷ []; geoms = []; providers = [] })
          comer_came = record {
            consumers =
                parts.consumers
                ∙ map-append (λ (c : Consumer). c.number) t.consumers
                (record { number = next; geom = n; provider = Some q.number; spoiled = false } ∷ []);
            active =
                ap (λ (z : TopoView Config). z.active) grew.mesh ∙ ap (λ (z : TopoView Config). z.active) joined.mesh;
            geoms = parts.geoms ∙ sym (append-nil (map disk_row t.geoms));
            providers = parts.providers ∙ sym (append-nil (map owner_row t.providers));
          }

          -- a provider without a note
          abbrev quiet_row : Provider → ℕ × Bool
          quiet_row y = (y.number, false)

          no_falls : v.fallen ≡ map quiet_row mesh.topology.providers
          no_falls =
              ap (λ (z : TopoView Config). z.fallen) joined.mesh ∙ stands.kept.quiet.fallen
              ∙ sym (map-changed (λ (y : Provider). y.number == x.provider.number)
              (λ y. record y { size = x.provider.size + q.size }) quiet_row (λ y e. refl) t.providers)
              ∙ ap (λ (z : Topology Config). map quiet_row z.providers) (sym mesh_graph)

          -- counts are kept, no note is set, and the queue has the places that are owed
          settled : 3 * length t.providers + 128 ≤ s.queue.spare → IsSettled new queue
          settled room =
              search (
                rules,
                rises_counted mesh mesh_counted,
                no_falls,
                few_notes,
                owed_are_few new,
                parts-count added new.topology parts,
              )

          -- and all is kept
          pub able_kept : 3 * length t.providers + 128 ≤ s.queue.spare
              → Holds (record j { topo = new; queue = queue })
          able_kept room =
              let same : s.providers + 0 ≡ s.providers = omega arith in
              subst Holds (sym end_is)
              (subst (λ k. Holds (record s { topo = new; queue = queue; providers = k })) same
              (kept_with_sites.comers stands.firm.0 s new queue s.taste
              (record { consumers = next ∷ []; geoms = []; providers = [] })
              stands.kept stands.firm.1 comer_came (next-unknown s stands.kept order, tt) tt
              (λ k.
              grew.kept.granted k ∙ larger_granted v joined.counted joined_order g config size k ∙ grants_are k)
              (settled room)))
