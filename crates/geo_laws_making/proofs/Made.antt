-- A new geom with its parts: the graph has come to more, and a firm world with it is firm.
use Rattle.std.specs.Prelude.{◌≡◌, ◌≢◌, ◌⊎◌, ℕ, ◌+◌, ◌<◌, ◌≤◌, ◌%◌, ◌==◌, max, Bool, true, false, not, ◌&&◌, List, [], ◌∷◌, ◌++◌, length, map, filter, find, Option, Some, None, IsSome, IsSomeAnd, IfSome, All, AllPairs, Contains, option_and_then, slice_get, is_none, IsTrue}
use Rattle.std.specs.List.{AllByRecursion, list_any, AllZip}
use Rattle.std.specs.Option.{option_map_or}
use Rattle.std.proofs.Common.{inl, inr, refl, sym, ◌∙◌, ap, subst, arith, get_or}
use Rattle.std.proofs.lemmas.Bool.{eq-eqb, ne_eqb, eqb-true}
use Rattle.std.proofs.lemmas.List.Elements.{All-contains, All-push, All-weaker, Contains-push_cases, Contains-get_or, recursion_from_All, All-from_recursion}
use Rattle.std.proofs.lemmas.List.{nil_from_length}
use Rattle.std.proofs.lemmas.List.Quantifiers.{all_pairs_push}
use Rattle.geo_base.specs.Sectors.{IsSectorSize}
use Rattle.geo_base.specs.declared.kind.Kind.{Kind}
use Rattle.geo_base.specs.declared.kind.Kind.TheVariants as kinds
use Rattle.geo_base.specs.declared.limits.TheConstants.{MAX_RANK}
use Rattle.geo_base.proofs.MemberLists.{zip_members}
use Rattle.geo_model.specs.Words.{largest, same_name, is_kind}
use Rattle.geo_model.specs.Topology.{Topology, Geom, Provider, Consumer, geom_at, provider_at, consumer_at, providers_of, is_name_taken, add_geom}
use Rattle.geo_model.specs.Rank.{rank}
use Rattle.geo_model.specs.Demand.{want, is_zero}
use Rattle.geo_model.specs.Events.{QueuedTopology, provider_of_event}
use Rattle.geo_model.specs.World.{World, Config, granted_in}
use Rattle.geo_model.specs.WorldEvents.{queued_of, with_queued}
use Rattle.geo_model.specs.Place.{place, component, components, disk_of}
use Rattle.geo_model.specs.Acceptance.{NewSlice, places_of, joined_size}
use Rattle.geo_model.specs.GeomCommands.{is_geom_of_disk, rank_over}
use Rattle.geo_model.specs.Graph.{IsInOrder, PartsLive}
use Rattle.geo_model.specs.Sound.{RanksHold, DifferInName, DifferInDisk, IsMediaSize, HasDiskSizes, IsPlaceInside, IsPlaced, fits_kind}
use Rattle.geo_model.specs.Fitting.{IsWholeIn, sizes_of, FitsPlace, FitsPlaces, Firm}
use Rattle.geo_model.proofs.DemandLemmas.{map_same}
use Rattle.geo_laws_graph.specs.LookupLaws.{new_geom}
use Rattle.geo_laws_graph.proofs.Members.{has, find-Contains, filter-Contains, All-from_contained}
use Rattle.geo_laws_graph.proofs.Lists.{found_fresh, found_itself}
use Rattle.geo_laws_graph.proofs.Numbered.{number_found, any-contained}
use Rattle.geo_laws_graph.proofs.Found.{each-found, added-geom}
use Rattle.geo_laws_graph.proofs.Living.{found-before, parts-alive, add_geom-geoms, sound-order, steady-parts}
use Rattle.geo_laws_graph.proofs.RankChanges.{adding-stay}
use Rattle.geo_laws_graph.proofs.Opens.{over, over-ranks, offers-nothing, rank-next}
use Rattle.geo_laws_graph.proofs.Holding.{sound-ranks, over_bare}
use Rattle.geo_laws_counts.specs.CountWords.{IsAtMost, DemandStays}
use Rattle.geo_laws_counts.proofs.LimitFacts.{all_of}
use Rattle.geo_laws_counts.proofs.Stays.{geom_came}
use Rattle.geo_laws_counts.proofs.Sums.{at_most-same}
use Rattle.geo_laws_life.proofs.Standers.{recursion-from_pairs, pairs-from_recursion}
use Rattle.geo_laws_life.proofs.Frames.{FitsOver}
use Rattle.geo_laws_life.proofs.Found.{found-with, some-with, some-there, none-there, if-found, at-found, one-found}
use Rattle.geo_laws_life.proofs.Bare.{stands-at}
use Rattle.geo_laws_making.specs.MakingLaws.{below_new, HasPlace, CanOffer, IsNewDisk, CanMake, MakesKeepFirm}
use Rattle.geo_laws_making.specs.MoreLaws.{IsUntouched, GeomFits, ProviderFits, IsMore}
use Rattle.geo_laws_making.proofs.Over.{IsNewOne, attached_one, below-among, over-geoms, over-providers, over-found, over-new, over-cases, over-others, over-order, over-live, over-demand, false_true, below-here}
use Rattle.geo_laws_making.proofs.Offered.{offered, IsOffered, KeepsGraph, offered-geoms, offered-consumers, offered-found, offered-cases, offered-others, offered-number, offered-living, offered-keeps, offered-names}
pub use Rattle.geo_laws_making.proofs.MoreFirm.{through}
use Rattle.geo_laws_making.proofs.MoreFirm.{tastes-low, more-firm}

module _ (w : World) (kind : Kind) (name : List ℕ) (config : Config) (automatic : Bool) (ps : List Provider)
    (sector : ℕ)
    (slices : List NewSlice) (firm : Firm w) (can : CanMake w kind config ps sector slices) where
  -- the graph before
  abbrev t : Topology Config
  t = w.topology

  -- the number of the geom, and that of its first consumer
  abbrev n : ℕ
  n = t.next_geom

  -- the geom
  abbrev g : Geom Config
  g = new_geom t kind name config automatic

  -- the graph with the geom alone
  abbrev base : Topology Config
  base = add_geom t kind name config automatic

  -- with its consumers
  abbrev v : Topology Config
  v = over n base ps

  -- and with its providers
  abbrev last : QueuedTopology Config
  last = offered n sector (record (queued_of w) { topology = v }) slices

  -- the graph in the end
  abbrev u : Topology Config
  u = last.topology

  -- before, all stood in order
  order : IsInOrder t
  order = sound-order w firm.graph.numbers

  -- and lived
  live : PartsLive t
  live = steady-parts t firm.graph.parts firm.graph.attached

  -- another geom that lives isn't the new one
  lives_apart : (h : ℕ) → IsSome (geom_at t h) → h ≢ n
  lives_apart h there same =
      none-there (geom_at t n) (found_fresh (λ (x : Geom Config). x.number) n n t.geoms order.geoms (omega arith))
      (subst (λ m. IsSome (geom_at t m)) same there)

  -- nor is DEV or TASTE
  fixed_apart : (m : ℕ) → (m ≡ 1) ⊎ (m ≡ 2) → m ≢ n
  fixed_apart m which = let there = stands-at w firm m which in lives_apart m
      (some-there (geom_at t m) there.item there.is)

  -- a member of the old geoms isn't
  old_geom_apart : (x : Geom Config) → Contains t.geoms x → x.number ≢ n
  old_geom_apart x here =
      lives_apart x.number (some-there (geom_at t x.number) x
      (found_itself (λ (z : Geom Config). z.number) n t.geoms x order.geoms here))

  -- the providers below are found
  found_list : AllByRecursion (λ (p : Provider). provider_at t p.number ≡ Some p) ps
  found_list = recursion_from_All (λ (p : Provider). provider_at t p.number ≡ Some p) ps can.found

  -- the geom is found at first
  new_found : geom_at base n ≡ Some g
  new_found = added-geom.new t kind name config automatic order

  -- the geoms in the end
  geoms_are : u.geoms ≡ t.geoms ++ g ∷ []
  geoms_are = offered-geoms n sector slices (record (queued_of w) { topology = v }) ∙ over-geoms n ps base

  -- the consumers in the end
  consumers_are : u.consumers ≡ v.consumers
  consumers_are = offered-consumers n sector slices (record (queued_of w) { topology = v })

  -- what is found among the geoms
  geom_in_end : (m : ℕ) (x : Geom Config) → geom_at base m ≡ Some x → geom_at u m ≡ Some x
  geom_in_end m x e = subst (λ xs. find (λ (z : Geom Config). z.number == m) xs ≡ Some x) (sym geoms_are) e

  -- so once the consumers stand
  geom_in_v : (m : ℕ) (x : Geom Config) → geom_at base m ≡ Some x → geom_at v m ≡ Some x
  geom_in_v m x e = subst (λ xs. find (λ (z : Geom Config). z.number == m) xs ≡ Some x)
      (sym (over-geoms n ps base)) e

  -- a provider that was found is found
  provider_in_end : (m : ℕ) (x : Provider) → provider_at t m ≡ Some x → provider_at u m ≡ Some x
  provider_in_end m x e =
      offered-found n sector slices (record (queued_of w) { topology = v }) m x
      (subst (λ xs. find (λ (z : Provider). z.number == m) xs ≡ Some x) (sym (over-providers n ps base)) e)

  -- so is a consumer
  consumer_in_end : (m : ℕ) (x : Consumer) → consumer_at v m ≡ Some x → consumer_at u m ≡ Some x
  consumer_in_end m x e = subst (λ xs. find (λ (z : Consumer). z.number == m) xs ≡ Some x) (sym consumers_are) e

  -- a new consumer is found, and what it is attached to
  new_in_end : (c : ℕ) (q : Provider) → below_new t.next_consumer ps c ≡ Some q
      → (consumer_at u c ≡ Some (attached_one n c q)) × (provider_at u q.number ≡ Some q)
  new_in_end c q e = (
    consumer_in_end c (attached_one n c q)
        (over-new n ps base c q (added-geom.order t kind name config automatic order) e),
    provider_in_end q.number q
        (All-contains (λ (p : Provider). provider_at t p.number ≡ Some p) ps q can.found
        (below-among t.next_consumer ps c q e)),
  )

  -- Ranks

  -- nothing was a provider of the geom
  none_of_it : providers_of t n ≡ []
  none_of_it = offers-nothing t order live.offerers

  -- the ranks with the consumers: others stay, and that of the geom is the one over the providers
  pub record RanksOver : Type 0 where
    pub hold : RanksHold v
    pub same : (h : ℕ) → h ≢ n → rank v h ≡ rank t h

  -- so they are
  ranks_over : RanksOver
  ranks_over =
      let stay = adding-stay.geom t kind name config automatic firm.graph.ranks.ranked live.geoms in
      let held = sound-ranks.geom_added t kind name config automatic firm.graph.ranks live.geoms order in
      let all = over-ranks n ps base stay.ranked (add_geom-geoms t kind name config automatic live.geoms)
      (some-there (geom_at base n) g new_found) none_of_it found_list in
      let before : map (λ (p : Provider). rank base p.geom) ps ≡ map (λ (p : Provider). rank t p.geom) ps =
      map_same (λ (p : Provider). rank base p.geom) (λ (p : Provider). rank t p.geom) ps
      (All-from_contained (λ (p : Provider). rank base p.geom ≡ rank t p.geom) ps (λ p here. stay.same p.geom)) in
      let lower : largest (map (λ (p : Provider). rank base p.geom) ps)
      ≡ largest (map (λ (p : Provider). rank t p.geom) ps) = ap largest before in
      let one : rank base n ≡ 1 = stay.same n ∙ rank-next t order firm.graph.ranks.ranked live.geoms in
      let top : rank v n ≡ max (rank base n) (1 + largest (map (λ (p : Provider). rank base p.geom) ps)) = all.1 in
      let low : 1 + largest (map (λ (p : Provider). rank t p.geom) ps) ≤ MAX_RANK = can.low in
      let others : (h : ℕ) → h ≢ n → rank v h ≡ rank t h = λ h apart. all.0.same h apart ∙ stay.same h in
      record {
        hold = record {
          ranked = all.0.ranked;
          not_deep = subst (λ (xs : List (Geom Config)). All (λ x. x.number ≢ 1 → x.number ≢ 2
              → rank v x.number ≤ MAX_RANK) xs) (sym (over-geoms n ps base))
              (All-push (λ (x : Geom Config). x.number ≢ 1 → x.number ≢ 2 → rank v x.number ≤ MAX_RANK) t.geoms g
              (all_of (λ (x : Geom Config). x.number ≢ 1 → x.number ≢ 2 → rank v x.number ≤ MAX_RANK) t.geoms
              (λ x here dev taste.
              let was : rank t x.number ≤ MAX_RANK = All-contains (λ (x : Geom Config). x.number ≢ 1 → x.number ≢ 2
              → rank t x.number ≤ MAX_RANK) t.geoms x firm.graph.ranks.not_deep here dev taste in
              let is : rank v x.number ≡ rank t x.number = others x.number (old_geom_apart x here) in
              omega arith))
              (λ dev taste. omega arith));
          dev = over_bare n 1 ps base held.dev;
          taste = over_bare n 2 ps base held.taste;
        };
        same = others;
      }

  -- the graph with the providers keeps what that with the consumers has
  kept : KeepsGraph (granted_in w) v u
  kept =
      offered-keeps n sector (granted_in w) slices (record (queued_of w) { topology = v })
      (λ same. fixed_apart 1 (inl refl) (sym same)) (λ same. fixed_apart 2 (inr refl) (sym same))
      (some-there (geom_at v n) g (geom_in_v n g new_found))
      (over-order n ps base (added-geom.order t kind name config automatic order))
      (over-live n ps base (some-there (geom_at base n) g new_found) found_list
      (parts-alive.geom_added t kind name config automatic live))
      ranks_over.hold

  -- other ranks stay
  rank_same : (h : ℕ) → h ≢ n → rank u h ≡ rank t h
  rank_same h apart = kept.same h ∙ ranks_over.same h apart

  -- demand stays
  demand : DemandStays (granted_in w) t (granted_in w) u (Contains t.consumers)
  demand =
      let first = geom_came (granted_in w) t kind name config automatic firm.graph.ranks.ranked
      (each-found.providers t order)
      (all_of (λ (c : Consumer). c.geom ≢ n) t.consumers (λ c here.
      lives_apart c.geom (All-contains (λ (z : Consumer). IsSome (geom_at t z.geom)) t.consumers c live.geoms
      here))) in
      let second = over-demand (granted_in w) n g refl can.dev can.taste ps base new_found none_of_it in
      record {
        haves = λ p. kept.demand.haves p ∙ second.haves p ∙ first.haves p;
        wants = λ c here. kept.demand.wants c tt ∙ second.wants c tt ∙ first.wants c here;
        exclusive = λ so. kept.demand.exclusive (second.exclusive (first.exclusive so));
        limit = λ so. kept.demand.limit (second.limit (first.limit so));
      }

  -- Parts

  -- an old geom, or the new one
  geom_cases : (y : Geom Config) → Contains u.geoms y → (Contains t.geoms y × (y.number ≢ n)) ⊎ (y ≡ g)
  geom_cases y here =
      elim (Contains-push_cases t.geoms g y (subst (λ xs. Contains xs y) geoms_are here)) [
        | inl old ↦ inl (old, old_geom_apart y old)
        | inr same ↦ inr (sym same)
      ]

  -- an old consumer, or a new one
  consumer_cases : (c : Consumer) → Contains u.consumers c → Contains t.consumers c
      ⊎ IsNewOne n t.next_consumer ps c
  consumer_cases c here = over-cases n ps base c (subst (λ xs. Contains xs c) consumers_are here)

  -- an old consumer isn't of the geom
  old_consumer_apart : (c : Consumer) → Contains t.consumers c → c.geom ≢ n
  old_consumer_apart c here =
      lives_apart c.geom (All-contains (λ (z : Consumer). IsSome (geom_at t z.geom)) t.consumers c live.geoms here)

  -- nor an old provider
  old_provider_apart : (p : Provider) → Contains t.providers p → p.geom ≢ n
  old_provider_apart p here =
      lives_apart p.geom (All-contains (λ (z : Provider). IsSome (geom_at t z.geom)) t.providers p live.offerers
      here)

  -- so a consumer of the geom is a new one
  own_consumer : (c : Consumer) → Contains u.consumers c → c.geom ≡ n → IsNewOne n t.next_consumer ps c
  own_consumer c here own =
      elim (consumer_cases c here) [
        | inl old ↦ absurd (old_consumer_apart c old own)
        | inr new ↦ new
      ]

  -- what a new one is attached to is found
  new_attached : (c : Consumer) (new : IsNewOne n t.next_consumer ps c)
      → option_and_then (provider_at u) c.provider ≡ Some new.below
  new_attached c new =
      ap (option_and_then (provider_at u)) new.attached ∙ (new_in_end c.number new.below new.at).1

  -- an offset of a new provider is placed
  placed : (y : Provider) (x : NewSlice) → y.name ≡ x.name → y.size ≡ x.size → y.sector ≡ sector
      → ((o : ℕ) → o < x.size → HasPlace config ps t.next_consumer sector x.name o) → IsPlaced u g y
  placed y x named sized sectors so o short =
      let spot = found-with (place config x.name o) (λ spot.
      IsSomeAnd (option_and_then (below_new t.next_consumer ps) (component config spot.component)) (λ q.
      (spot.offset < q.size) × (q.sector ≡ sector))) (so o (subst (λ m. o < m) sized short)) in
      let q = found-with (option_and_then (below_new t.next_consumer ps) (component config spot.item.component))
      (λ q.
      (spot.item.offset < q.size) × (q.sector ≡ sector)) spot.fact in
      let c = through (below_new t.next_consumer ps) (component config spot.item.component) q.item q.is in
      let both = new_in_end c.first q.item c.then in
      some-with (place config y.name o) (IsPlaceInside u g y) spot.item (ap (λ m. place config m o) named ∙ spot.is)
      (some-with (option_and_then (consumer_at u) (component config spot.item.component)) (λ d. (d.geom ≡ n)
      × IsSomeAnd (option_and_then (provider_at u) d.provider) (λ q. (spot.item.offset < q.size)
      × (q.sector ≡ y.sector)))
      (attached_one n c.first q.item) (ap (option_and_then (consumer_at u)) c.is ∙ both.0) (
        refl,
        some-with (provider_at u q.item.number) (λ q. (spot.item.offset < q.size) × (q.sector ≡ y.sector)) q.item
            both.1 (q.fact.0, q.fact.1 ∙ sym sectors),
      ))

  -- a new provider fits
  provider_fits : (y : Provider) → IsOffered n sector slices y → ProviderFits u g y
  provider_fits y new =
      let offers = All-contains (CanOffer w config ps sector) slices new.slice can.offers new.here in
      record {
        geom = new.geom;
        sector = subst IsSectorSize (sym new.sector) can.sectors;
        size = subst (λ m. IsMediaSize y.size m) (sym new.sector)
            (subst (λ m. IsMediaSize m sector) (sym new.size) offers.size);
        leads = elim offers.leads [
          | inl disk ↦ inl disk
          | inr so ↦ inr (placed y new.slice new.name new.size new.sector so)
        ];
      }

  -- an old provider, or one that fits
  provider_cases : (y : Provider) → Contains u.providers y
      → (Contains t.providers y × (y.geom ≢ n)) ⊎ IsOffered n sector slices y
  provider_cases y here =
      elim (offered-cases n sector slices (record (queued_of w) { topology = v }) y here) [
        | inl old ↦
            (let was = subst (λ xs. Contains xs y) (over-providers n ps base) old in
            inl (was, old_provider_apart y was))
        | inr new ↦ inr new
      ]

  -- a provider of the geom is a new one
  own_provider : (y : Provider) → Contains (providers_of u n) y → IsOffered n sector slices y
  own_provider y here =
      let kept_here = filter-Contains (λ (z : Provider). z.geom == n) u.providers y here in
      elim (provider_cases y kept_here.0) [
        | inl old ↦ absurd (old.1 (eqb-true y.geom n kept_here.1))
        | inr new ↦ new
      ]

  -- so many are its
  own_number : length (providers_of u n) ≡ length slices
  own_number =
      let all : length (providers_of u n) ≡ length (providers_of v n) + length slices =
      offered-number n sector slices (record (queued_of w) { topology = v }) in
      let none : length (providers_of v n) ≡ 0 =
      ap (λ (xs : List Provider). length (filter (λ (z : Provider). z.geom == n) xs)) (over-providers n ps base)
      ∙ ap length none_of_it in
      omega arith

  -- The geom

  -- no old geom is of its disk
  disks_differ : AllPairs DifferInDisk u.geoms
  disks_differ =
      subst (AllPairs DifferInDisk) (sym geoms_are)
      (all_pairs_push DifferInDisk t.geoms g firm.graph.numbers.one_geom_of_disk (λ k d short a first second.
      let x : Geom Config = get_or t.geoms k d in
      let new = at-found (disk_of config) (IsNewDisk w sector slices) a second can.disk in
      let is : is_geom_of_disk a x ≡ true =
      ap (λ o. option_map_or (λ e. e == a) o false) first ∙ eq-eqb a a refl in
      let some = any-contained (is_geom_of_disk a) t.geoms x (Contains-get_or t.geoms k d short) is in
      let no : true ≡ false = sym some ∙ new.none in
      let bad : ⊥ = cc in bad))

  -- the providers have the sizes of its disk
  has_sizes : HasDiskSizes u w.disks g
  has_sizes =
      if-found (disk_of config) (λ a. IsSomeAnd (slice_get w.disks a) (λ disk.
      All (λ p. (p.sector ≡ disk.sector) × (p.size ≡ disk.size)) (providers_of u n))) (λ a e.
      let new = at-found (disk_of config) (IsNewDisk w sector slices) a e can.disk in
      let disk = found-with (slice_get w.disks a) (λ disk. (sector ≡ disk.sector)
      × All (λ x. x.size ≡ disk.size) slices)
      new.sizes in
      some-with (slice_get w.disks a) (λ disk.
      All (λ p. (p.sector ≡ disk.sector) × (p.size ≡ disk.size)) (providers_of u n)) disk.item disk.is
      (all_of (λ (p : Provider). (p.sector ≡ disk.item.sector) × (p.size ≡ disk.item.size)) (providers_of u n)
      (λ p here.
      let o = own_provider p here in (
        o.sector ∙ disk.fact.0,
        o.size ∙ All-contains (λ (x : NewSlice). x.size ≡ disk.item.size) slices o.slice disk.fact.1 o.here,
      ))))

  -- its places fit
  fits_places : FitsPlaces u g
  fits_places =
      zip_members (λ (a : Option ℕ) (b : ℕ). IfSome (option_and_then (below_new t.next_consumer ps) a) (λ q.
      (b ≤ q.size) × (b % q.sector ≡ 0))) (FitsPlace u n) (places_of config) (sizes_of config) (λ a b here. fit a b)
      can.places
    where
      -- one place
      fit : (a : Option ℕ) (b : ℕ) → IfSome (option_and_then (below_new t.next_consumer ps) a) (λ q.
          (b ≤ q.size) × (b % q.sector ≡ 0)) → FitsPlace u n a b
      fit None b fact = tt
      fit (Some k) b fact =
          if-found (consumer_at u k) (FitsOver u n b) (λ c e own.
          let new = own_consumer c (find-Contains (λ (z : Consumer). z.number == k) u.consumers c e) own in
          let at : below_new t.next_consumer ps k ≡ Some new.below =
          subst (λ m. below_new t.next_consumer ps m ≡ Some new.below)
          (number_found (λ (z : Consumer). z.number) u.consumers k c e) new.at in
          if-found (option_and_then (provider_at u) c.provider) (λ q. (b ≤ q.size) × (b % q.sector ≡ 0)) (λ q under.
          subst (λ (z : Provider). (b ≤ z.size) × (b % z.sector ≡ 0))
          (one-found (option_and_then (provider_at u) c.provider) new.below q (new_attached c new) under)
          (at-found (below_new t.next_consumer ps k) (λ q. (b ≤ q.size) × (b % q.sector ≡ 0)) new.below at fact)))

  -- the geom fits
  geom_fits : GeomFits w u g
  geom_fits = record {
    dev = λ same. fixed_apart 1 (inl refl) (sym same);
    taste = λ same. fixed_apart 2 (inr refl) (sym same);
    class = record {
      config = can.fits;
      dev = can.dev ∙ sym (ne_eqb n 1 (λ same. fixed_apart 1 (inl refl) (sym same)));
      taste = can.taste ∙ sym (ne_eqb n 2 (λ same. fixed_apart 2 (inr refl) (sym same)));
    };
    upright = refl;
    disk_sizes = has_sizes;
    components = All-weaker (λ c. IsSome (below_new t.next_consumer ps c))
        (λ c. IsSomeAnd (consumer_at u c) (λ x. (x.geom ≡ n) × IsSome x.provider)) (λ c there.
        let q = has (below_new t.next_consumer ps c) there in
        some-with (consumer_at u c) (λ x. (x.geom ≡ n) × IsSome x.provider) (attached_one n c q.item)
        (new_in_end c q.item q.is).0 (refl, refl)) (components config) can.filled;
    partial = λ free.
        nil_from_length (providers_of u n) (own_number ∙ ap length (can.partial free));
    places = fits_places;
    one = λ concat. let few : length slices ≤ 1 = can.one concat in let all = own_number in omega arith;
    apart = record { apart = can.apart; few = can.few };
    sums = λ joined.
        all_of (λ (p : Provider). p.size ≡ joined_size config) (providers_of u n) (λ p here.
        let o = own_provider p here in
        o.size ∙ All-contains (λ (x : NewSlice). x.size ≡ joined_size config) slices o.slice (can.sums joined)
        o.here);
  }

  -- what stood stands as it stood
  untouched : (p : ℕ) → IsUntouched t u g p
  untouched p x e = (
    provider_in_end p x e,
    old_provider_apart x (find-Contains (λ (z : Provider). z.number == p) t.providers x e),
  )

  -- names differ
  names_differ : AllPairs DifferInName u.providers
  names_differ =
      offered-names n sector slices (record (queued_of w) { topology = v })
      (recursion_from_All (λ (x : NewSlice). is_name_taken v x.name ≡ false) slices
      (All-weaker (CanOffer w config ps sector) (λ (x : NewSlice). is_name_taken v x.name ≡ false) (λ x offers.
      ap (list_any (λ (z : Provider). not z.errored && same_name z.name x.name)) (over-providers n ps base)
      ∙ offers.free)
      slices can.offers))
      (recursion-from_pairs (λ (x y : NewSlice). same_name x.name y.name ≡ false) slices can.names)
      (subst (AllPairs DifferInName) (sym (over-providers n ps base)) firm.graph.providers.names)

  -- the graph has come to more
  made-more : IsMore w u g
  made-more = record {
    order = kept.order;
    live = kept.live;
    ranks = kept.ranks;
    exclusive = demand.exclusive firm.demand.counts.exclusive;
    limited = demand.limit firm.demand.counts.limited;
    old_geoms = λ m x apart e. geom_in_end m x (found-before (λ (z : Geom Config). z.number == m) t.geoms _ x e);
    old_providers = λ m x e.
        record { now = x; found = provider_in_end m x e; is = record { same = refl; larger = omega arith } };
    old_consumers = λ m x e. consumer_in_end m x (over-found n ps base m x e);
    stands = geom_in_end n g new_found;
    geoms = geom_cases;
    providers = λ y here.
        elim (provider_cases y here) [
          | inl old ↦ inl old
          | inr new ↦ inr (provider_fits y new)
        ];
    consumers = λ c here.
        elim (consumer_cases c here) [
          | inl old ↦ inl old
          | inr new ↦
              inr (record {
                geom = new.geom;
                attached = some-there (option_and_then (provider_at u) c.provider) new.below (new_attached c new);
              })
        ];
    others = λ m apart.
        offered-others n sector slices (record (queued_of w) { topology = v }) m apart
        ∙ ap (filter (λ (z : Provider). z.geom == m)) (over-providers n ps base);
    dev = ap (filter (λ (z : Consumer). z.geom == 1)) consumers_are
        ∙ over-others n ps base 1 (fixed_apart 1 (inl refl));
    tasting = ap (filter (λ (z : Consumer). z.geom == 2)) consumers_are
        ∙ over-others n ps base 2 (fixed_apart 2 (inr refl));
    names = names_differ;
    disks = disks_differ;
    wholes = λ c here own.
        let new = own_consumer c here own in
        if-found (option_and_then (provider_at u) c.provider) (λ q. IsWholeIn config q.sector) (λ q under.
        subst (λ (z : Provider). IsWholeIn config z.sector)
        (one-found (option_and_then (provider_at u) c.provider) new.below q (new_attached c new) under)
        (All-contains (λ (p : Provider). IsWholeIn config p.sector) ps new.below can.wholes new.here));
    fits = geom_fits;
    wants = λ c here.
        subst (λ a. IsAtMost (want (granted_in w) t c) a) (sym (demand.wants c here))
        (at_most-same (want (granted_in w) t c));
    opened = λ y here used. inl (sym (ap is_zero (demand.haves y.number)) ∙ used);
    bios = λ x here. untouched x.target;
    tasted = if-found w.taste (λ s. IsUntouched t u g s.provider) (λ s e. untouched s.provider);
    rank = tastes-low w u firm (λ s e x is h of. (
      ap (option_and_then (λ (z : Provider). geom_at u z.geom)) (provider_in_end s.provider x is)
          ∙ geom_in_end x.geom h (found-before (λ (z : Geom Config). z.number == x.geom) t.geoms _ h of),
      rank_same h.number
          (old_geom_apart h (find-Contains (λ (z : Geom Config). z.number == x.geom) t.geoms h of)),
    ));
  }

  -- so the world is firm
  pub made-firm : Firm (with_queued w last)
  made-firm =
      more-firm w u g firm made-more last.events
      (offered-living n sector slices (record (queued_of w) { topology = v })
      (over-order n ps base (added-geom.order t kind name config automatic order))
      (subst (λ (xs : List Provider). All
      (λ e. IsSome (find (λ (z : Provider). z.number == provider_of_event e) xs)) w.events)
      (sym (over-providers n ps base)) firm.taste.living))

-- a geom that is made keeps a firm world firm
pub makes_keep : MakesKeepFirm
makes_keep = record {
  made = λ w kind name config automatic ps sector slices firm can.
      made-firm w kind name config automatic ps sector slices firm can;
}

-- a configuration of its class over one new consumer, which is of no disk, concat or stripe
pub record IsPlain (kind : Kind) (config : Config) (c : ℕ) : Type 0 where
  pub fits : IsTrue (fits_kind kind config)
  pub dev : is_kind kind kinds.Dev ≡ false
  pub taste : is_kind kind kinds.Taste ≡ false
  pub concat : is_kind kind kinds.Concat ≡ false
  pub stripe : is_kind kind kinds.Stripe ≡ false
  pub one_component : components config ≡ c ∷ []
  pub first_component : component config 0 ≡ Some c
  pub no_places : places_of config ≡ []
  pub no_sizes : sizes_of config ≡ []
  pub no_disk : disk_of config ≡ None

module _ (w : World) (kind : Kind) (config : Config) (p : Provider)
    (plain : IsPlain kind config w.topology.next_consumer) where
  -- the new consumer
  abbrev c : ℕ
  c = w.topology.next_consumer

  -- an offset that lands inside the one provider has its place
  pub plain-place : (sector : ℕ) (name : List ℕ) (o offset : ℕ)
      → place config name o ≡ Some (record { component = 0; offset = offset }) → offset < p.size → p.sector ≡ sector
      → HasPlace config (p ∷ []) c sector name o
  plain-place sector name o offset lands inside same =
      some-with (place config name o) (λ spot.
      IsSomeAnd (option_and_then (below_new c (p ∷ [])) (component config spot.component)) (λ q.
      (spot.offset < q.size) × (q.sector ≡ sector))) (record { component = 0; offset = offset }) lands
      (some-with (option_and_then (below_new c (p ∷ [])) (component config 0)) (λ q.
      (offset < q.size) × (q.sector ≡ sector)) p
      (ap (option_and_then (below_new c (p ∷ []))) plain.first_component ∙ below-here c p [] c refl) (inside, same))

  -- so over one provider such a geom can be made
  pub plain-can : (sector : ℕ) (slices : List NewSlice) → provider_at w.topology p.number ≡ Some p
      → rank_over w.topology (p ∷ []) ≤ MAX_RANK → IsWholeIn config p.sector → IsSectorSize sector
      → All (CanOffer w config (p ∷ []) sector) slices → AllPairs (λ x y. same_name x.name y.name ≡ false) slices
      → CanMake w kind config (p ∷ []) sector slices
  plain-can sector slices found low whole sectors offers names = record {
    fits = plain.fits;
    dev = plain.dev;
    taste = plain.taste;
    found = All-from_recursion (λ (x : Provider). provider_at w.topology x.number ≡ Some x) (p ∷ []) (found, tt);
    low = low;
    wholes = All-from_recursion (λ (x : Provider). IsWholeIn config x.sector) (p ∷ []) (whole, tt);
    filled = subst (All (λ d. IsSome (below_new c (p ∷ []) d))) (sym plain.one_component)
        (All-from_recursion (λ d. IsSome (below_new c (p ∷ []) d)) (c ∷ [])
        (some-there (below_new c (p ∷ []) c) p (below-here c p [] c refl), tt));
    apart = subst (AllPairs (λ a b. a ≢ b)) (sym plain.one_component)
        (pairs-from_recursion (λ a b. a ≢ b) (c ∷ []) (tt, tt));
    few = let none : length (places_of config) ≡ 0 = ap length plain.no_places in omega arith;
    places = no_places_fit (places_of config) (sizes_of config) plain.no_places plain.no_sizes;
    disk = subst (λ o. IfSome o (IsNewDisk w sector slices)) (sym plain.no_disk) tt;
    sectors = sectors;
    offers = offers;
    names = names;
    partial = λ some. false_true (sym (ap (list_any is_none) plain.no_places) ∙ some);
    one = λ concat. not_concat concat;
    sums = λ joined. elim joined [ inl concat ↦ not_concat concat | inr stripe ↦ not_stripe stripe ];
  }
    where
      -- without places all of them fit
      no_places_fit : (xs : List (Option ℕ)) (ys : List ℕ) → xs ≡ [] → ys ≡ []
          → AllZip (λ place size. IfSome (option_and_then (below_new c (p ∷ [])) place) (λ q.
          (size ≤ q.size) × (size % q.sector ≡ 0))) xs ys
      no_places_fit [] [] none nothing = tt
      no_places_fit (x ∷ xs) ys none nothing = absurd (let no : ⊥ = cc in no)
      no_places_fit [] (y ∷ ys) none nothing = absurd (let no : ⊥ = cc in no)

      -- it is no concat
      not_concat : {A : Type 0} → kind ≡ kinds.Concat → A
      not_concat same = false_true (sym plain.concat ∙ ap (λ k. is_kind k kinds.Concat) same)

      -- and no stripe
      not_stripe : {A : Type 0} → kind ≡ kinds.Stripe → A
      not_stripe same = false_true (sym plain.stripe ∙ ap (λ k. is_kind k kinds.Stripe) same)
