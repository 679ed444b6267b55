-- What is kept after a wash, and the world then.
use Rattle.std.specs.Prelude.{◌≡◌, ℕ, zero, suc, ◌+◌, ◌<◌, ◌≤◌, ◌==◌, not, List, [], ◌∷◌, length, map, filter, count_by, Option, Some, None, Contains, IsSome, IfSome, option_and_then, slice_get}
use Rattle.std.proofs.Common.{refl, sym, ◌∙◌, ap, subst, arith, rules}
use Rattle.std.proofs.lemmas.List.{length-append}
use Rattle.geo_base.proofs.PlaceLists.{slot-seen}
use Rattle.geo_base.proofs.FilterLists.{count-kept}
use Rattle.geo_base.specs.declared.request.Counts.{Counts}
use Rattle.geo_model.specs.declared.step.Event.{Event}
use Rattle.geo_model.specs.declared.step.WashWork.{WashWork}
use Rattle.geo_model.specs.declared.step.WashWork.TheVariants as works
use Rattle.geo_model.specs.Topology.{Geom, Provider, attached_to, geom_at, provider_at}
use Rattle.geo_model.specs.Events.{without_events_of}
use Rattle.geo_model.specs.World.{Config, HeaderDisk}
use Rattle.geo_model.specs.WorldEvents.{with_queued}
use Rattle.geo_model.specs.Freeing.{wash, washed}
use Rattle.geo_model.specs.Place.{disk_of}
use Rattle.geo_laws_graph.proofs.Members.{find-Contains}
use Rattle.geo_event.specs.EventQueue.{Queued}
use Rattle.geo_mesh.specs.Topo.{TopoView, IsButForRoom, without_geom, without_provider, without_consumer}
use Rattle.geo_access.specs.Access.{granted_by}
use Rattle.geo_life.specs.Life.{queued, is_out, AreStored, CountsStay}
use Rattle.geo_life.proofs.Places.{counts_are_stored}
use Rattle.geo_life.specs.Wash.{IsBare}
use Rattle.geo_state.specs.declared.state.State.{State}
use Rattle.geo_state.specs.Steps.{IsFirm, Stands}
use Rattle.geo_state.specs.declared.state.DiskSeat.{DiskSeat}
use Rattle.geo_state.specs.Holds.{Holds, owed_events}
use Rattle.geo_state.specs.Seats.{change_seat, with_disk_geom}
use Rattle.geo_state.specs.Sites.{seats_without}
use Rattle.geo_state.specs.Changes.{IsSettled}
use Rattle.geo_state.specs.World.{world, disk_of_seat}
use Rattle.geo_state.proofs.Lists.{Around, around, around-gone}
use Rattle.geo_state.proofs.SiteLemmas.{kept_after_provider, kept_after_consumer, kept_after_geom}
use Rattle.geo_moves.specs.Washing.{IsDue, HasWashed}
use Rattle.geo_moves.proofs.Going.{provider-lives, geom-lives}

-- Counts

-- how many providers carry no error, and how many rows have a write count
abbrev sound : List Provider → ℕ
sound xs = count_by (λ (p : Provider). not p.errored) xs

-- how many rows have a write count
abbrev held : List (ℕ × Counts) → ℕ
held rows = count_by (λ (row : ℕ × Counts). not (row.1.w == 0)) rows

-- the item of a number goes: there is one less
pub one-less : {X : Type 0} (number : X → ℕ) (n : ℕ) (x : X) (xs : List X) → Around number n x xs
    → length (filter (λ y. not (number y == n)) xs) + 1 ≡ length xs
one-less number n x xs r =
    search (rules, around-gone number n x xs r, length-append r.front r.back, length-append r.front (x ∷ r.back))

-- events that are taken away
fewer-events : (events : List Event) (p : ℕ) → length (without_events_of events p) ≤ length events
fewer-events [] p = omega arith
fewer-events (e ∷ rest) p = search (rules, fewer-events rest p)

-- The header's disks

-- they don't see which geom stands for them
disks-geom : (seats : List DiskSeat) (disk : ℕ) (geom : Option ℕ)
    → map disk_of_seat (with_disk_geom seats disk geom) ≡ map disk_of_seat seats
disks-geom seats disk geom = on (slice_get seats disk) refl
  where
    on : (o : Option DiskSeat) → slice_get seats disk ≡ o
        → map disk_of_seat (change_seat (λ x. record x { geom = geom }) seats disk o) ≡ map disk_of_seat seats
    on None is = refl
    on (Some seat) is = slot-seen disk_of_seat seats disk (record seat { geom = geom }) seat is refl

-- nor whether one stands for them
disks-stay : (seats : List DiskSeat) (o : Option ℕ) → map disk_of_seat (seats_without seats o) ≡ map disk_of_seat seats
disks-stay seats None = refl
disks-stay seats (Some disk) = disks-geom seats disk None

-- what is in a list mapped is in the list
below-length : {X Y : Type 0} (f : X → Y) (xs : List X) (i : ℕ) → IsSome (slice_get (map f xs) i) → i < length xs
below-length f [] i never = absurd cc
below-length f (y ∷ ys) zero there = omega arith
below-length f (y ∷ ys) (suc i) there = search (rules, below-length f ys i there)

-- the disk of a geom has its seat
module _ (s : State) (firm : IsFirm s) where
  seat-of : (g : Geom Config) → Contains s.topo.topology.geoms g → (o : Option ℕ) → disk_of g.config ≡ o
      → IfSome o (λ d. d < length s.disks.items)
  seat-of g here None is = tt
  seat-of g here (Some d) is = search (rules, below-length disk_of_seat s.disks.items d)

  -- so has that of a geom's number
  pub has-seat : (n : ℕ) (disk : Option ℕ)
      → disk ≡ option_and_then (λ (g : Geom Config). disk_of g.config) (geom_at s.topo.topology n)
      → IfSome disk (λ d. d < length s.disks.items)
  has-seat n disk is = search (rules, seat-of, find-Contains (λ (x : Geom Config). x.number == n) s.topo.topology.geoms)

-- What can go stands

module _ (s : State) (stands : Stands s) where
  stored : AreStored (granted_by s.topo) s.topo
  stored = counts_are_stored s.topo (granted_by s.topo) stands.kept.counted (λ c. refl)

  -- a provider that can go
  pub provider-stands : (p : ℕ) → IsDue s (works.Provider p) → IsSome (provider_at s.topo.topology p)
  provider-stands p due =
      provider-lives (granted_by s.topo) (is_out s.topo) s.topo.topology p
      (sym (due.found (granted_by s.topo) stored)) stands.firm.1.1.graph.numbers.providers

  -- and a geom that can go
  pub geom-stands : (g : ℕ) → IsDue s (works.Geom g) → IsSome (geom_at s.topo.topology g)
  geom-stands g due =
      geom-lives (granted_by s.topo) (is_out s.topo) s.topo.topology g
      (sym (due.found (granted_by s.topo) stored)) stands.firm.1.1.graph.numbers.geoms

-- What is kept

module _ (s : State) (stands : Stands s) (u : TopoView Config) (q : Queued) where
  -- the world, where nothing but the graph, the queue and what no world sees is other
  pub washed-world : (new : State) (work : WashWork)
      → new ≡ record s { topo = u; queue = q; providers = new.providers; disks = new.disks }
      → map disk_of_seat new.disks.items ≡ map disk_of_seat s.disks.items
      → queued u q ≡ washed (queued s.topo s.queue) work → HasWashed s new work
  unfolding wash
  washed-world new work is disks same actors log =
      ap (λ (z : State). world actors log z) is
      ∙ ap (λ (ds : List HeaderDisk). record (world actors log s) {
        topology = u.topology;
        events = q.events;
        disks = ds;
      }) disks
      ∙ ap (with_queued (world actors log s)) same

  module _ (memory : q.spare + length q.events ≡ s.queue.spare + length s.queue.events)
      (counts_stay : CountsStay s.topo u) where
    -- the queue has the places that are owed
    settled : owed_events u ≤ owed_events s.topo → s.queue.spare ≤ q.spare → IsSettled u q
    settled less more = search rules

    module _ (prov : ℕ) (lives : IsSome (provider_at s.topo.topology prov))
        (gone : IsButForRoom u (without_provider s.topo prov)) where
      -- the providers
      abbrev ps : List Provider
      ps = s.topo.topology.providers

      -- there is one less
      pub one-provider-less : length u.topology.providers + 1 ≡ s.providers
      one-provider-less = on (provider_at s.topo.topology prov) refl lives
        where
          on : (o : Option Provider) → provider_at s.topo.topology prov ≡ o → IsSome o
              → length u.topology.providers + 1 ≡ s.providers
          on None e never = absurd cc
          on (Some x) e there =
              ap (λ (v : TopoView Config). length v.topology.providers + 1) gone
              ∙ one-less (λ (y : Provider). y.number) prov x ps
              (around (λ (y : Provider). y.number) s.topo.topology.next_provider prov x ps
              stands.firm.1.1.graph.numbers.providers e)
              ∙ sym stands.kept.providers

      module _ (same : queued u q ≡ washed (queued s.topo s.queue) (works.Provider prov)) where
        -- events that name it leave their room
        more-spare : s.queue.spare ≤ q.spare
        more-spare = search (rules, fewer-events s.queue.events prov)

        owed-less : owed_events u ≤ owed_events s.topo
        owed-less =
            search (
              rules,
              count-kept (λ (p : Provider). not p.errored) (λ (x : Provider). not (x.number == prov)) ps,
              count-kept (λ (row : ℕ × Counts). not (row.1.w == 0)) (λ (row : ℕ × Counts). not (row.0 == prov))
                  s.topo.haves,
            )

        pub provider-kept : attached_to s.topo.topology prov ≡ [] → (n : ℕ) → n + 1 ≡ s.providers
            → Holds (record s { topo = u; queue = q; providers = n })
        provider-kept free n is =
            let left : length u.topology.providers + 1 ≡ s.providers = one-provider-less in
            let count : length u.topology.providers ≡ n = omega (arith, left, is) in
            subst (λ m. Holds (record s { topo = u; queue = q; providers = m })) count
            (kept_after_provider stands.firm.0 s u q prov stands.kept stands.firm.1 free gone counts_stay.granted
            (settled owed-less more-spare))

    -- A consumer

    -- all is kept
    pub consumer-kept : (cons : ℕ) → IsButForRoom u (without_consumer s.topo cons)
        → queued u q ≡ washed (queued s.topo s.queue) (works.Consumer cons)
        → Holds (record s { topo = u; queue = q })
    consumer-kept cons gone same =
        search (
          rules,
          kept_after_consumer s u q s.taste cons stands.kept gone
              (λ c. counts_stay.granted c ∙ ap (λ (g : ℕ → Counts). g c) stands.kept.grants),
        )

    -- A geom

    -- all is kept
    pub geom-kept : (geom : ℕ) (new : State) → IsBare s.topo geom → IsSome (geom_at s.topo.topology geom)
        → IsButForRoom u (without_geom s.topo geom)
        → queued u q ≡ washed (queued s.topo s.queue) (works.Geom geom)
        → new ≡ record s { topo = u; queue = q; disks = new.disks }
        → new.disks.items
        ≡ seats_without s.disks.items
        (option_and_then (λ (g : Geom Config). disk_of g.config) (geom_at s.topo.topology geom))
        → Holds new
    geom-kept geom new bare lives gone same is seats = search (rules, kept_after_geom stands.firm.0 s new geom)

    -- and the world is that without it
    pub geom-world : (geom : ℕ) (new : State)
        → queued u q ≡ washed (queued s.topo s.queue) (works.Geom geom)
        → new ≡ record s { topo = u; queue = q; disks = new.disks }
        → (o : Option ℕ) → new.disks.items ≡ seats_without s.disks.items o → HasWashed s new (works.Geom geom)
    geom-world geom new same is o seats =
        washed-world new (works.Geom geom)
        (is ∙ ap (λ n. record s { topo = u; queue = q; providers = n; disks = new.disks })
        (sym (ap (λ (z : State). z.providers) is)))
        (ap (map disk_of_seat) seats ∙ disks-stay s.disks.items o) same
