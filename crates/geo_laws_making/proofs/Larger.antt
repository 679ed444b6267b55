-- The concat has grown: the graph has come to more, and a firm world with it is firm.
use Rattle.std.specs.Prelude.{◌≡◌, ◌≢◌, ◌⊎◌, ℕ, ◌+◌, ◌-◌, ◌<◌, ◌≤◌, ◌%◌, ◌==◌, nat_le, nat_lt, true, false, not, ◌||◌, [], ◌∷◌, ◌++◌, length, map, flat_map, sum, Option, Some, None, is_none, IsSome, IsSomeAnd, IfSome, All, AllPairs, Contains, option_and_then, slice_get}
use Rattle.std.specs.List.{AllZip, list_any}
use Rattle.std.specs.Option.{option_map_or, option_to_list}
use Rattle.std.proofs.lemmas.Slice.Zip.{all_zipped_more, AllZip-long}
use Prim.Native.Nat.{◌∣◌}
use Rattle.std.proofs.Common.{inl, inr, refl, sym, ◌∙◌, ap, subst, arith, get_or}
use Rattle.std.proofs.lemmas.Bool.{false_from_ne_true, or_parts, not-false, leb-false, ltb-false, eqb-true, eq-eqb, ne_eqb, cases_eq, cases_lt}
use Rattle.std.proofs.lemmas.List.{length-append, length-map}
use Rattle.std.proofs.lemmas.List.Elements.{All-contains, All-push, All-weaker, Contains-get_or}
use Rattle.std.proofs.lemmas.List.Quantifiers.{all_pairs_push}
use Rattle.std.proofs.lemmas.Nat.Gcd.{dvd_of_mod-eq-zero, mod-eq-zero_of_dvd}
use Rattle.std.proofs.Math.Nat.{dvd-add}
use Rattle.geo_base.proofs.MemberLists.{zip_members}
use Rattle.geo_base.proofs.Options.{if-with}
use Rattle.geo_base.specs.Sectors.{IsSectorSize}
use Rattle.geo_base.specs.declared.kind.Kind.TheVariants as kinds
use Rattle.geo_base.specs.declared.limits.TheConstants.{MAX_COMPONENTS, MAX_MEDIA_BYTES}
use Rattle.geo_model.specs.Words.{is_kind}
use Rattle.geo_model.specs.Topology.{Topology, Geom, Provider, Consumer, geom_at, provider_at, consumer_at, providers_of, consumers_of, add_consumer, set_config}
use Rattle.geo_model.specs.Rank.{rank, reaches}
use Rattle.geo_model.specs.Opens.{is_below}
use Rattle.geo_model.specs.Demand.{have, is_zero}
use Rattle.geo_model.specs.World.{World, Config, Concat, Taste, Bio, granted_in}
use Rattle.geo_model.specs.Events.{provider_of_event}
use Rattle.geo_model.specs.Place.{Spot, place, component, components, disk_of}
use Rattle.geo_model.specs.Acceptance.{places_of, add_place, joined_size}
use Rattle.geo_model.specs.Append.{Growing, is_invalid_append, is_growth_busy, component_refusal, with_component}
use Rattle.geo_model.specs.Graph.{IsInOrder, PartsLive}
use Rattle.geo_model.specs.Sound.{fits_kind, DifferInName, DifferInDisk, IsMediaSize, IsOfItsClass, IsPlaceInside, IsPlaced, LeadsDown}
use Rattle.geo_model.specs.Steady.{HasItsComponents, WaitsForPlaces}
use Rattle.geo_model.specs.Fitting.{IsWholeIn, sizes_of, FitsPlace, FitsPlaces, PlacesHold, HasItsSum, Firm}
use Rattle.geo_model.proofs.FirmLemmas.{sound_of, steady_of}
use Rattle.geo_laws_graph.proofs.Members.{has, find-Contains, filter-Contains, Contains-filter, Contains-map, nothing_in, All-from_contained}
use Rattle.geo_laws_graph.proofs.Lists.{found_fresh, found_itself, unhit, length-changed}
use Rattle.geo_laws_graph.proofs.Numbered.{number_found, any-contained}
use Rattle.geo_laws_graph.proofs.Found.{added-consumer, size_found}
use Rattle.geo_laws_graph.proofs.Living.{parts-alive}
use Rattle.geo_laws_counts.proofs.LimitFacts.{all_of}
use Rattle.geo_laws_life.proofs.Standers.{recursion-from_pairs}
use Rattle.geo_laws_growth.specs.GrowthLaws.{grown}
use Rattle.geo_laws_growth.proofs.Grown.{grown_is_found}
use Rattle.geo_laws_growth.proofs.GrownPlaces.{keeps_places, grown_concat}
use Rattle.geo_laws_growth.proofs.Appended.{appends_hold}
use Rattle.geo_laws_life.specs.LessLaws.{ComesFrom}
use Rattle.geo_laws_life.proofs.Found.{found-with, some-with, some-there, none-there, if-found, at-found, at-some, one-found, pairs-from}
use Rattle.geo_laws_making.specs.MoreLaws.{IsGrownFrom, StandsGrown, IsUntouched, GeomFits, ProviderFits, ConsumerFits, IsMore}
use Rattle.geo_laws_life.proofs.Frames.{fact_still, IsPart, FitsOver}
use Rattle.geo_laws_making.proofs.MoreFirm.{fits_grown, inside_grown, more-firm, tastes-low}
use Rattle.geo_laws_making.proofs.Over.{false_true}
use Rattle.geo_laws_making.proofs.Concats.{IsConcat, concat_of, IsStanding, still_fits, no_more, all-components, filled_still}
use Rattle.geo_laws_making.proofs.Rises.{order, live, geom_here, provider_here, provider_own, own_only, apart_from, wants_more, opened_upright, rank_away}
use Rattle.geo_laws_making.proofs.PlaceTaken.{in-places}

-- what an append asks of the concat and the provider: not too many consumers, one sector size, and a size that
-- isn't too large
pub record IsValid (t : Topology Config) (x : Growing) (q : Provider) : Type 0 where
  pub few : length (consumers_of t x.geom.number) < MAX_COMPONENTS
  pub sector : x.provider.sector ≡ q.sector
  pub limited : x.provider.size + q.size ≤ MAX_MEDIA_BYTES

-- so the tests say
pub valid_from : (t : Topology Config) (x : Growing) (q : Provider) → is_invalid_append t x q ≡ false
    → IsValid t x q
valid_from t x q valid =
    let a = or_parts x.geom.automatic (nat_le MAX_COMPONENTS (length (consumers_of t x.geom.number))
    || (not (x.provider.sector == q.sector) || nat_lt MAX_MEDIA_BYTES (x.provider.size + q.size))) valid in
    let b = or_parts (nat_le MAX_COMPONENTS (length (consumers_of t x.geom.number)))
    (not (x.provider.sector == q.sector) || nat_lt MAX_MEDIA_BYTES (x.provider.size + q.size)) a.1 in
    let c = or_parts (not (x.provider.sector == q.sector)) (nat_lt MAX_MEDIA_BYTES (x.provider.size + q.size)) b.1 in
    record {
      few = leb-false MAX_COMPONENTS (length (consumers_of t x.geom.number)) b.0;
      sector = eqb-true x.provider.sector q.sector (not-false (x.provider.sector == q.sector) c.0);
      limited = ltb-false MAX_MEDIA_BYTES (x.provider.size + q.size) c.1;
    }

module _ (w : World) (x : Growing) (q : Provider) (firm : Firm w) (is : IsStanding w.topology x)
    (there : provider_at w.topology q.number ≡ Some q) (valid : IsValid w.topology x q)
    (busy : is_growth_busy w x.provider.number ≡ false) (none : component_refusal w x q ≡ None) where
  -- the graph before
  abbrev t : Topology Config
  t = w.topology

  -- the graph in the end
  abbrev u : Topology Config
  u = grown w x q

  -- the number of the geom, of its provider, and of the new consumer
  abbrev n : ℕ
  n = x.geom.number

  -- the provider's
  abbrev p : ℕ
  p = x.provider.number

  -- the new consumer's
  abbrev c : ℕ
  c = t.next_consumer

  -- the configuration in the end
  abbrev config : Config
  config = add_place x.geom.config c q.size

  -- the geom in the end
  abbrev g : Geom Config
  g = record x.geom { config = config }

  -- its provider
  abbrev larger : Provider
  larger = record x.provider { size = x.provider.size + q.size }

  -- the new consumer
  abbrev new : Consumer
  new = record { number = c; geom = n; provider = Some q.number; spoiled = false }

  -- the geom is of its class
  class : IsOfItsClass x.geom
  class = All-contains IsOfItsClass t.geoms x.geom firm.graph.numbers.classes (geom_here w x firm is)

  -- the configuration before
  before : IsConcat x.geom.config
  before = concat_of x.geom.config (subst (λ k. fits_kind k x.geom.config ≡ true) is.kind class.config)

  -- and in the end
  config_is : config ≡ Concat before.id (before.places ++ Some c ∷ []) (before.sizes ++ q.size ∷ [])
  config_is = ap (λ z. add_place z c q.size) before.is

  -- it isn't DEV
  not_dev : n ≢ 1
  not_dev same = false_true (sym (ap (λ k. is_kind k kinds.Dev) is.kind) ∙ class.dev ∙ eq-eqb n 1 same)

  -- nor TASTE
  not_taste : n ≢ 2
  not_taste same = false_true (sym (ap (λ k. is_kind k kinds.Taste) is.kind) ∙ class.taste ∙ eq-eqb n 2 same)

  -- its places fitted
  fitted : AllZip (FitsPlace t n) before.places before.sizes
  fitted = subst (λ z. AllZip (FitsPlace t n) (places_of z) (sizes_of z)) before.is
      (All-contains (FitsPlaces t) t.geoms x.geom firm.sizes.places (geom_here w x firm is))

  -- none was free
  no_free : list_any is_none before.places ≡ false
  no_free = false_from_ne_true (list_any is_none before.places) (λ free.
      let none_left = All-contains (WaitsForPlaces t) t.geoms x.geom firm.graph.partial (geom_here w x firm is)
      (ap (λ z. list_any is_none (places_of z)) before.is ∙ free) in
      nothing_in x.provider (subst (λ ys. Contains ys x.provider) none_left (provider_own w x firm is)))

  -- each component stood
  stood : All (λ d. IsSomeAnd (consumer_at t d) (IsPart x.geom)) (flat_map option_to_list before.places)
  stood = subst (λ z. All (λ d. IsSomeAnd (consumer_at t d) (IsPart x.geom)) (components z)) before.is
      (All-contains (HasItsComponents (granted_in w) t) t.geoms x.geom firm.demand.components
      (geom_here w x firm is) (inl is.upright))

  -- as long as its provider
  summed : x.provider.size ≡ sum before.sizes
  summed =
      All-contains (λ (y : Provider). y.size ≡ joined_size x.geom.config) (providers_of t n) x.provider
      (All-contains (HasItsSum t) t.geoms x.geom firm.sizes.sums (geom_here w x firm is) (inl is.kind))
      (provider_own w x firm is)
      ∙ ap joined_size before.is

  -- Look-ups

  -- an old consumer has another number
  old_apart : (m : ℕ) (d : Consumer) → consumer_at t m ≡ Some d → m ≢ c
  old_apart m d e same =
      none-there (consumer_at t c)
      (found_fresh (λ (z : Consumer). z.number) c c t.consumers (order w x firm is).consumers (omega arith))
      (subst (λ k. IsSome (consumer_at t k)) same (some-there (consumer_at t m) d e))

  -- it is found
  consumer_in : (m : ℕ) (d : Consumer) → consumer_at t m ≡ Some d → consumer_at u m ≡ Some d
  consumer_in m d e = grown_is_found.other_consumers w x q m (old_apart m d e) ∙ e

  -- so is the new one
  new_in : consumer_at u c ≡ Some new
  new_in = grown_is_found.consumer w x q (order w x firm is)

  -- the provider is found larger
  larger_in : provider_at u p ≡ Some larger
  larger_in = grown_is_found.provider w x q is.found

  -- each provider is found, and has grown or not
  provider_in : (m : ℕ) (y : Provider) → provider_at t m ≡ Some y → StandsGrown y (provider_at u m)
  provider_in m y e =
      elim (cases_eq m p) [
        | inl same ↦
            (let one : x.provider ≡ y = one-found (provider_at t p) x.provider y is.found.provider
            (subst (λ k. provider_at t k ≡ Some y) same e) in
            record {
              now = larger;
              found = subst (λ k. provider_at u k ≡ Some larger) (sym same) larger_in;
              is = subst (λ z. IsGrownFrom z larger) one (record { same = refl; larger = omega arith });
            })
        | inr apart ↦
            record {
              now = y;
              found = grown_is_found.other_providers w x q m apart ∙ e;
              is = record { same = refl; larger = omega arith };
            }
      ]

  -- the lists are in order
  u_order : IsInOrder u
  u_order = grown_is_found.order w x q (order w x firm is)

  -- an old geom, or the grown one
  geom_cases : (y : Geom Config) → Contains u.geoms y → (Contains t.geoms y × (y.number ≢ n)) ⊎ (y ≡ g)
  geom_cases y here =
      let at = found_itself (λ (z : Geom Config). z.number) u.next_geom u.geoms y u_order.geoms here in
      elim (cases_eq y.number n) [
        | inl same ↦
            inr (one-found (geom_at u n) y g (subst (λ k. geom_at u k ≡ Some y) same at)
            (grown_is_found.geom w x q is.found))
        | inr apart ↦
            inl (
              find-Contains (λ (z : Geom Config). z.number == y.number) t.geoms y
                  (sym (grown_is_found.other_geoms w x q y.number apart) ∙ at),
              apart,
            )
      ]

  -- an old provider of another geom, or the larger one
  provider_cases : (y : Provider) → Contains u.providers y → (Contains t.providers y × (y.geom ≢ n)) ⊎ (y ≡ larger)
  provider_cases y here =
      let at = found_itself (λ (z : Provider). z.number) u.next_provider u.providers y u_order.providers here in
      elim (cases_eq y.number p) [
        | inl same ↦
            inr (one-found (provider_at u p) y larger (subst (λ k. provider_at u k ≡ Some y) same at) larger_in)
        | inr apart ↦
            (let old = find-Contains (λ (z : Provider). z.number == y.number) t.providers y
            (sym (grown_is_found.other_providers w x q y.number apart) ∙ at) in
            inl (old, λ own. apart (ap (λ (z : Provider). z.number) (own_only w x firm is y old own))))
      ]

  -- an old consumer, or the new one
  consumer_cases : (d : Consumer) → Contains u.consumers d → Contains t.consumers d ⊎ (d ≡ new)
  consumer_cases d here =
      let at = found_itself (λ (z : Consumer). z.number) u.next_consumer u.consumers d u_order.consumers here in
      elim (cases_eq d.number c) [
        | inl same ↦ inr (one-found (consumer_at u c) d new (subst (λ k. consumer_at u k ≡ Some d) same at) new_in)
        | inr apart ↦
            inl (find-Contains (λ (z : Consumer). z.number == d.number) t.consumers d
            (sym (grown_is_found.other_consumers w x q d.number apart) ∙ at))
      ]

  -- The grown geom

  -- an old place fits
  old_fits : (a : Option ℕ) (b : ℕ) → Contains before.places a → FitsPlace t n a b → FitsPlace u n a b
  old_fits None b here fact = tt
  old_fits (Some k) b here fact =
      let d = found-with (consumer_at t k) (IsPart x.geom)
      (All-contains (λ d. IsSomeAnd (consumer_at t d) (IsPart x.geom))
      (flat_map option_to_list before.places) k stood (in-places before.places k here)) in
      if-with (consumer_at u k) (FitsOver u n b) d.item (consumer_in k d.item d.is) (λ own.
      fits_grown t u provider_in d.item.provider
      (All-contains (λ (z : Consumer). IsSome (option_and_then (provider_at t) z.provider)) t.consumers d.item
      firm.graph.attached (find-Contains (λ (z : Consumer). z.number == k) t.consumers d.item d.is)) b
      (at-found (consumer_at t k) (FitsOver t n b) d.item d.is fact own))

  -- the provider below the new consumer
  q_media : IsMediaSize q.size q.sector
  q_media = All-contains (λ (z : Provider). IsMediaSize z.size z.sector) t.providers q firm.graph.providers.sizes
      (find-Contains (λ (z : Provider). z.number == q.number) t.providers q there)

  -- is found
  q_in : StandsGrown q (provider_at u q.number)
  q_in = provider_in q.number q there

  -- the new place fits
  new_fits : FitsPlace u n (Some c) q.size
  new_fits =
      subst (λ o. IfSome o (FitsOver u n q.size)) (sym new_in) (λ own.
      if-found (provider_at u q.number) (λ r. (q.size ≤ r.size) × (q.size % r.sector ≡ 0)) (λ r e.
      subst (λ (z : Provider). (q.size ≤ z.size) × (q.size % z.sector ≡ 0))
      (one-found (provider_at u q.number) q_in.now r q_in.found e) (
        q_in.is.larger,
        subst (λ m. q.size % m ≡ 0) (sym (ap (λ (z : Provider). z.sector) q_in.is.same))
            q_media.whole,
      )))

  -- an old component is found in the end
  component_stands : (d : ℕ) → IsSomeAnd (consumer_at t d) (IsPart x.geom)
      → IsSomeAnd (consumer_at u d) (IsPart x.geom)
  component_stands d = fact_still t u (IsPart x.geom) (λ m y e part. consumer_in m y e) (Some d)

  -- the components in the end
  components_are : components config ≡ flat_map option_to_list before.places ++ c ∷ []
  components_are =
      ap components config_is ∙ grown_concat.all_components before.id before.places before.sizes c q.size

  -- the places before name different consumers
  apart_before : AllPairs (λ a b. a ≢ b) (flat_map option_to_list before.places)
  apart_before = subst (λ z. AllPairs (λ a b. a ≢ b) (components z)) before.is
      (All-contains PlacesHold t.geoms x.geom firm.sizes.apart (geom_here w x firm is)).apart

  -- they are no more than its consumers
  few_before : length before.places ≤ length (consumers_of t n)
  few_before =
      let all = all-components before.places no_free in
      let less = no_more (flat_map option_to_list before.places)
      (map (λ (z : Consumer). z.number) (consumers_of t n))
      (recursion-from_pairs (λ a b. a ≢ b) (flat_map option_to_list before.places) apart_before) (λ m here.
      let d = found-with (consumer_at t m) (IsPart x.geom)
      (All-contains (λ d. IsSomeAnd (consumer_at t d) (IsPart x.geom))
      (flat_map option_to_list before.places) m stood here) in
      subst (Contains (map (λ (z : Consumer). z.number) (consumers_of t n)))
      (number_found (λ (z : Consumer). z.number) t.consumers m d.item d.is)
      (Contains-map (λ (z : Consumer). z.number) (consumers_of t n) d.item
      (Contains-filter (λ (z : Consumer). z.geom == n) t.consumers d.item
      (find-Contains (λ (z : Consumer). z.number == m) t.consumers d.item d.is)
      (eq-eqb d.item.geom n d.fact.0)))) in
      let same = length-map (consumers_of t n) (λ (z : Consumer). z.number) in
      omega arith

  -- so there are sixteen at most
  few_places : length (places_of config) ≤ MAX_COMPONENTS
  few_places =
      let same : length (places_of config) ≡ length before.places + 1 =
      ap (λ z. length (places_of z)) config_is ∙ length-append before.places (Some c ∷ []) in
      let few = few_before in
      let less : length (consumers_of t n) < MAX_COMPONENTS = valid.few in
      omega arith

  -- the size of the places together
  joined_is : joined_size config ≡ x.provider.size + q.size
  joined_is =
      ap joined_size config_is ∙ grown_concat.size before.id before.places before.sizes c q.size
      ∙ ap (λ m. m + q.size) (sym summed)

  -- it has one provider still
  one_still : length (providers_of u n) ≤ 1
  one_still =
      let few : length (providers_of t n) ≤ 1 =
      All-contains (λ (z : Geom Config). z.kind ≡ kinds.Concat → length (providers_of t z.number) ≤ 1) t.geoms
      x.geom
      firm.sizes.one (geom_here w x firm is) is.kind in
      let same : length (providers_of u n) ≡ length (providers_of t n) =
      ap length (size_found.of (set_config (add_consumer t n (Some q.number)) n config) p
      (x.provider.size + q.size) n)
      ∙ length-changed (λ (z : Provider). z.number == p) (λ z. record z { size = x.provider.size + q.size })
      (providers_of t n) in
      omega arith

  -- the geom fits
  geom_fits : GeomFits w u g
  geom_fits = record {
    dev = not_dev;
    taste = not_taste;
    class = record {
      config = still_fits x.geom.kind x.geom.config c q.size is.kind class.config;
      dev = class.dev;
      taste = class.taste;
    };
    upright = is.upright;
    disk_sizes = if-found (disk_of config) (λ d. IsSomeAnd (slice_get w.disks d) (λ disk.
        All (λ y. (y.sector ≡ disk.sector) × (y.size ≡ disk.size)) (providers_of u n))) (λ d e.
        let no : None ≡ Some d = sym (ap disk_of config_is) ∙ e in
        absurd (let bad : ⊥ = cc in bad));
    components = subst (All (λ d. IsSomeAnd (consumer_at u d) (IsPart x.geom))) (sym components_are)
        (All-push (λ d. IsSomeAnd (consumer_at u d) (IsPart x.geom)) (flat_map option_to_list before.places) c
        (All-weaker (λ d. IsSomeAnd (consumer_at t d) (IsPart x.geom))
        (λ d. IsSomeAnd (consumer_at u d) (IsPart x.geom)) component_stands
        (flat_map option_to_list before.places) stood)
        (some-with (consumer_at u c) (IsPart x.geom) new new_in (refl, refl)));
    partial = λ free.
        false_true (sym (ap (λ z. list_any is_none (places_of z)) config_is
        ∙ filled_still before.places c no_free) ∙ free);
    places = subst (λ z. AllZip (FitsPlace u n) (places_of z) (sizes_of z)) (sym config_is)
        (all_zipped_more (FitsPlace u n) before.places before.sizes (Some c) q.size
        (zip_members (FitsPlace t n) (FitsPlace u n) before.places before.sizes old_fits fitted) new_fits);
    one = λ concat. one_still;
    apart = record {
      apart = subst (AllPairs (λ a b. a ≢ b)) (sym components_are)
          (all_pairs_push (λ a b. a ≢ b) (flat_map option_to_list before.places) c apart_before (λ k d short.
          let m : ℕ = get_or (flat_map option_to_list before.places) k d in
          let e = found-with (consumer_at t m) (IsPart x.geom)
          (All-contains (λ d. IsSomeAnd (consumer_at t d) (IsPart x.geom))
          (flat_map option_to_list before.places) m stood
          (Contains-get_or (flat_map option_to_list before.places) k d short)) in
          old_apart m e.item e.is));
      few = few_places;
    };
    sums = λ joined. all_of (λ (y : Provider). y.size ≡ joined_size config) (providers_of u n) (λ y here.
        let kept = filter-Contains (λ (z : Provider). z.geom == n) u.providers y here in
        elim (provider_cases y kept.0) [
          | inl old ↦ absurd (old.1 (eqb-true y.geom n kept.1))
          | inr same ↦ ap (λ (z : Provider). z.size) same ∙ sym joined_is
        ]);
  }

  -- The larger provider

  -- its size is one
  larger_media : IsMediaSize (x.provider.size + q.size) x.provider.sector
  larger_media =
      let own = All-contains (λ (z : Provider). IsMediaSize z.size z.sector) t.providers x.provider
      firm.graph.providers.sizes (provider_here w x firm is) in
      let some : 1 ≤ x.provider.size = own.positive in
      record {
        positive = omega arith;
        whole = mod-eq-zero_of_dvd x.provider.sector (dvd-add x.provider.sector
            (dvd_of_mod-eq-zero x.provider.sector own.whole)
            (subst (λ m. m ∣ q.size) (sym valid.sector) (dvd_of_mod-eq-zero q.sector q_media.whole)));
        limited = valid.limited;
      }

  -- a place that was inside is
  inside_still : (spot : Spot) → IsPlaceInside t x.geom x.provider spot → IsPlaceInside u g larger spot
  inside_still spot =
      inside_grown t u provider_in consumer_in x.geom x.provider spot (component x.geom.config spot.component)
      (component config spot.component) ((keeps_places x.geom.config c q.size).components spot.component)

  -- each old offset was placed
  placed_before : IsPlaced t x.geom x.provider
  placed_before =
      elim (at-some (geom_at t x.provider.geom) (λ h. (is_zero (have (granted_in w) t x.provider.number) ≡ false)
      ⊎ (h.withering ≡ false) → IsSome (disk_of h.config) ⊎ IsPlaced t h x.provider) x.geom
      (ap (geom_at t) is.found.own ∙ is.found.geom)
      (All-contains (LeadsDown (granted_in w) t) t.providers x.provider firm.demand.places
      (provider_here w x firm is)) (inr is.upright)) [
        | inl disk ↦ false_true (subst (λ z. IsSome (disk_of z)) before.is disk)
        | inr so ↦ so
      ]

  -- the first new place, behind the old ones
  new_place : (o : ℕ) → o < q.size → IsSomeAnd (place config x.provider.name (sum before.sizes + o))
      (IsPlaceInside u g larger)
  new_place o short =
      let spot : Spot = record { component = length before.sizes; offset = o } in
      let more : q.size ≤ q_in.now.size = q_in.is.larger in
      let long : length before.places
      ≡ length before.sizes = sym (AllZip-long (FitsPlace t n) before.places before.sizes fitted) in
      some-with (place config x.provider.name (sum before.sizes + o)) (IsPlaceInside u g larger) spot
      (ap (λ z. place z x.provider.name (sum before.sizes + o)) config_is
      ∙ grown_concat.new before.id before.places before.sizes c q.size x.provider.name o short)
      (some-with (option_and_then (consumer_at u) (component config (length before.sizes))) (λ d. (d.geom ≡ n)
      × IsSomeAnd (option_and_then (provider_at u) d.provider) (λ r. (o < r.size)
      × (r.sector ≡ x.provider.sector))) new
      (ap (λ k. option_and_then (consumer_at u) (component config k)) (sym long)
      ∙ ap (λ z. option_and_then (consumer_at u) (component z (length before.places))) config_is
      ∙ ap (option_and_then (consumer_at u)) (grown_concat.new_component before.id before.places before.sizes c
      q.size)
      ∙ new_in) (
        refl,
        some-with (provider_at u q.number) (λ r. (o < r.size) × (r.sector ≡ x.provider.sector)) q_in.now q_in.found
            (omega arith, ap (λ (z : Provider). z.sector) q_in.is.same ∙ sym valid.sector),
      ))

  -- so each offset is placed
  placed : IsPlaced u g larger
  placed o short =
      elim (cases_lt o x.provider.size) [
        | inl low ↦
            (let spot = found-with (place x.geom.config x.provider.name o) (IsPlaceInside t x.geom x.provider)
            (placed_before o low) in
            some-with (place config x.provider.name o) (IsPlaceInside u g larger) spot.item
            ((keeps_places x.geom.config c q.size).places x.provider.name o spot.item spot.is)
            (inside_still spot.item spot.fact))
        | inr high ↦
            (let size = summed in
            let same : sum before.sizes + (o - x.provider.size) ≡ o = omega arith in
            subst (λ m. IsSomeAnd (place config x.provider.name m) (IsPlaceInside u g larger)) same
            (new_place (o - x.provider.size) (omega arith)))
      ]

  -- it fits
  larger_fits : ProviderFits u g larger
  larger_fits = record {
    geom = is.found.own;
    sector = All-contains (λ (z : Provider). IsSectorSize z.sector) t.providers x.provider firm.sizes.sectors
        (provider_here w x firm is);
    size = larger_media;
    leads = inr placed;
  }

  -- What is around

  -- other geoms have the providers that they had
  others : (m : ℕ) → m ≢ n → providers_of u m ≡ providers_of t m
  others m apart =
      size_found.of (set_config (add_consumer t n (Some q.number)) n config) p (x.provider.size + q.size) m
      ∙ unhit (λ (z : Provider). z.number == p) (λ z. record z { size = x.provider.size + q.size })
      (providers_of t m)
      (All-from_contained (λ (z : Provider). (z.number == p) ≡ false) (providers_of t m) (λ y here.
      let kept = filter-Contains (λ (z : Provider). z.geom == m) t.providers y here in
      ne_eqb y.number p (λ same.
      let one : y ≡ x.provider = one-found (provider_at t p) y x.provider
      (subst (λ k. provider_at t k ≡ Some y) same
      (found_itself (λ (z : Provider). z.number) t.next_provider t.providers y (order w x firm is).providers
      kept.0))
      is.found.provider in
      apart (sym (eqb-true y.geom m kept.1) ∙ ap (λ (z : Provider). z.geom) one ∙ is.found.own))))

  -- what isn't above the concat is untouched
  untouched : (s : ℕ) → is_below t p s ≡ false → IsUntouched t u g s
  untouched s away y e =
      let apart = apart_from w x firm is s y e away in
      (grown_is_found.other_providers w x q s apart.number ∙ e, apart.geom)

  -- the tests of what is above
  above : (list_any (λ (b : Bio). is_below t p b.target) w.bios ≡ false)
      × (option_map_or (λ (s : Taste). is_below t p s.provider) w.taste false ≡ false)
  above = or_parts (list_any (λ (b : Bio). is_below t p b.target) w.bios)
      (option_map_or (λ (s : Taste). is_below t p s.provider) w.taste false) busy

  -- a bio isn't
  bio_away : (b : Bio) → Contains w.bios b → is_below t p b.target ≡ false
  bio_away b here = false_from_ne_true (is_below t p b.target) (λ yes.
      false_true (sym above.0 ∙ any-contained (λ (b : Bio). is_below t p b.target) w.bios b here yes))

  -- nor is a taste
  taste_away : (s : Taste) → w.taste ≡ Some s → is_below t p s.provider ≡ false
  taste_away s e = sym (ap (λ o. option_map_or (λ (z : Taste). is_below t p z.provider) o false) e) ∙ above.1

  -- each provider comes from one that stood
  provider_comes : (y : Provider) → Contains u.providers y → ComesFrom IsGrownFrom t.providers y
  provider_comes y here =
      elim (provider_cases y here) [
        | inl old ↦ record { item = y; stands = old.0; fact = record { same = refl; larger = omega arith } }
        | inr same ↦
            record {
              item = x.provider;
              stands = provider_here w x firm is;
              fact = subst (IsGrownFrom x.provider) (sym same) (record { same = refl; larger = omega arith });
            }
      ]

  -- a geom with its disk
  abbrev SameDisk : Geom Config → Geom Config → Type 0
  SameDisk a b = (b.number ≡ a.number) × (disk_of b.config ≡ disk_of a.config)

  -- each geom comes from one that stood
  geom_comes : (y : Geom Config) → Contains u.geoms y → ComesFrom SameDisk t.geoms y
  geom_comes y here =
      elim (geom_cases y here) [
        | inl old ↦ record { item = y; stands = old.0; fact = (refl, refl) }
        | inr same ↦
            record {
              item = x.geom;
              stands = geom_here w x firm is;
              fact = subst (SameDisk x.geom) (sym same) (refl, (keeps_places x.geom.config c q.size).disk);
            }
      ]

  -- what the parts name lives
  u_live : PartsLive u
  u_live =
      parts-alive.sized (set_config (add_consumer t n (Some q.number)) n config) p (x.provider.size + q.size)
      (parts-alive.config (add_consumer t n (Some q.number)) n config
      (parts-alive.consumer_added t n (Some q.number) (some-there (geom_at t n) x.geom is.found.geom)
      (some-there (provider_at t q.number) q there) (live w x firm is)))

  -- the graph has come to more
  larger-more : IsMore w u g
  larger-more = record {
    order = u_order;
    live = u_live;
    ranks = appends_hold.ranks w x q (sound_of w firm) (steady_of w firm) is.found there none;
    exclusive = appends_hold.exclusive w x q (sound_of w firm) none;
    limited = appends_hold.limit w x q (sound_of w firm) none;
    old_geoms = λ m h apart e. grown_is_found.other_geoms w x q m apart ∙ e;
    old_providers = provider_in;
    old_consumers = consumer_in;
    stands = grown_is_found.geom w x q is.found;
    geoms = geom_cases;
    providers = λ y here.
        elim (provider_cases y here) [
          | inl old ↦ inl old
          | inr same ↦ inr (subst (ProviderFits u g) (sym same) larger_fits)
        ];
    consumers = λ d here.
        elim (consumer_cases d here) [
          | inl old ↦ inl old
          | inr same ↦
              inr (subst (ConsumerFits u g) (sym same)
              (record { geom = refl; attached = some-there (provider_at u q.number) q_in.now q_in.found }))
        ];
    others = others;
    dev = added-consumer.others_of t n (Some q.number) 1 (λ same. not_dev (sym same));
    tasting = added-consumer.others_of t n (Some q.number) 2 (λ same. not_taste (sym same));
    names = pairs-from (λ (z : Provider). z.number) DifferInName IsGrownFrom
        (λ a b of. ap (λ (z : Provider). z.number) of.same)
        (λ a b d e first second apart.
        subst (λ z. DifferInName z e) (sym first.same)
        (subst (λ z. DifferInName (record a { size = d.size }) z) (sym second.same) apart))
        t.next_provider u.next_provider t.providers u.providers (order w x firm is).providers u_order.providers
        provider_comes firm.graph.providers.names;
    disks = pairs-from (λ (z : Geom Config). z.number) DifferInDisk SameDisk (λ a b of. of.0)
        (λ a b d e first second apart k one two. apart k (sym first.1 ∙ one) (sym second.1 ∙ two))
        t.next_geom u.next_geom t.geoms u.geoms (order w x firm is).geoms u_order.geoms geom_comes
        firm.graph.numbers.one_geom_of_disk;
    wholes = λ d here own.
        if-found (option_and_then (provider_at u) d.provider) (λ r. IsWholeIn config r.sector) (λ r e.
        subst (λ z. IsWholeIn z r.sector) (sym config_is) tt);
    fits = geom_fits;
    wants = λ d here. wants_more w x firm is q there none d;
    opened = opened_upright w x firm is q there none;
    bios = λ b here. untouched b.target (bio_away b here);
    tasted = if-found w.taste (λ s. IsUntouched t u g s.provider) (λ s e. untouched s.provider (taste_away s e));
    rank = tastes-low w u firm (λ s e y found h of.
        let apart = apart_from w x firm is s.provider y found (taste_away s e) in
        let number = number_found (λ (z : Geom Config). z.number) t.geoms y.geom h of in (
          ap (option_and_then (λ (z : Provider). geom_at u z.geom))
              (grown_is_found.other_providers w x q s.provider apart.number ∙ found)
              ∙ grown_is_found.other_geoms w x q y.geom apart.geom ∙ of,
          rank_away w x firm is q there none h.number (ap (λ k. reaches t k n) number ∙ apart.unreached),
        ));
  }

  -- events are of providers that live still
  living_still : (m : ℕ) → IsSome (provider_at t m) → IsSome (provider_at u m)
  living_still m some =
      let y = has (provider_at t m) some in
      let s = provider_in m y.item y.is in
      some-there (provider_at u m) s.now s.found

  -- so the world is firm
  pub larger-firm : Firm (with_component w x q)
  larger-firm =
      more-firm w u g firm larger-more w.events
      (All-weaker (λ e. IsSome (provider_at t (provider_of_event e)))
      (λ e. IsSome (provider_at u (provider_of_event e)))
      (λ e. living_still (provider_of_event e)) w.events firm.taste.living)

  -- and each provider of the graph before lives
  pub larger-lives : All (λ (y : Provider). IsSome (provider_at u y.number)) t.providers
  larger-lives = all_of (λ (y : Provider). IsSome (provider_at u y.number)) t.providers (λ y here.
      living_still y.number (some-there (provider_at t y.number) y
      (found_itself (λ (z : Provider). z.number) t.next_provider t.providers y (order w x firm is).providers here)))

  -- and so does that of the concat
  pub provider-lives : IsSome (provider_at u p)
  provider-lives = some-there (provider_at u p) larger larger_in
