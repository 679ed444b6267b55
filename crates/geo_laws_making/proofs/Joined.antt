-- A concat and a stripe: a geom over some providers, with one provider over all of them; or the command is refused.
use Rattle.std.specs.Prelude.{◌≡◌, ◌≢◌, ℕ, ◌+◌, ◌*◌, ◌/◌, ◌%◌, ◌<◌, ◌≤◌, ◌==◌, nat_le, nat_lt, Bool, true, false, not, List, [], ◌∷◌, length, Some, IsSome, IsSomeAnd, IfSome, All, AllPairs, Contains, option_and_then, slice_get}
use Rattle.std.specs.List.{AllZip, list_all, range_with_len, AllByRecursion}
use Rattle.std.specs.Option.{option_flatten}
use Rattle.std.proofs.Common.{inl, inr, refl, sym, ◌∙◌, ap, subst, arith}
use Rattle.std.proofs.lemmas.Bool.{and_parts, or_parts, not-false, ltb-false, leb-true, eqb-true}
use Rattle.std.proofs.lemmas.List.{length-map}
use Rattle.std.proofs.lemmas.List.FromFn.{length-map-range_with_len}
use Rattle.std.proofs.lemmas.List.Elements.{All-contains, All-from_recursion}
use Rattle.std.proofs.lemmas.Nat.Gcd.{dvd_of_mod-eq-zero, mod-eq-zero_of_dvd}
use Rattle.std.proofs.Math.Nat.{dvd-mul_left_of_dvd, div-mul-le_self}
use Rattle.geo_base.specs.Sectors.{IsSectorSize}
use Rattle.geo_base.specs.declared.errno.Errno.{Errno}
use Rattle.geo_base.specs.declared.kind.Kind.TheVariants as kinds
use Rattle.geo_base.specs.declared.limits.TheConstants.{MAX_COMPONENTS, MAX_MEDIA_BYTES, MAX_RANK, MAX_STRIPE_BYTES}
use Rattle.geo_model.specs.Words.{same_name}
use Rattle.geo_model.specs.Names.{concat_name, stripe_name}
use Rattle.geo_model.specs.Topology.{Provider, provider_at, find_provider, is_name_taken}
use Rattle.geo_model.specs.World.{World, Config}
use Rattle.geo_model.specs.Place.{Spot, concat_spot, component, stripe_spot}
use Rattle.geo_model.specs.Acceptance.{NewSlice, joined_size, is_size, smallest}
use Rattle.geo_model.specs.GeomCommands.{rank_over, with_made, found_providers, new_places, sector_of, is_invalid_joined, joined_tests, concat_config, stripe_config, is_invalid_stripe, do_concat, do_stripe}
use Rattle.geo_model.specs.Sound.{IsMediaSize}
use Rattle.geo_model.specs.Fitting.{IsWholeIn, Firm}
use Rattle.geo_laws_graph.proofs.Members.{find-Contains, Contains-here, filter_map-Contains, Contains-map, All-from_contained}
use Rattle.geo_laws_counts.proofs.LimitFacts.{all_of, all_true}
use Rattle.geo_laws_life.proofs.Standers.{pairs-from_recursion}
use Rattle.geo_laws_life.proofs.Found.{some-with, if-found, one-found}
use Rattle.geo_laws_making.specs.MakingLaws.{below_new, HasPlace, CanOffer, CanMake}
use Rattle.geo_laws_making.proofs.Over.{false_true, below-among}
use Rattle.geo_laws_making.proofs.Made.{through, made-firm}
use Rattle.geo_laws_making.specs.GeomLaws.{ConcatsStayFirm, StripesStayFirm}
use Rattle.geo_laws_making.proofs.Pulled.{answered-firm}
use Rattle.geo_laws_making.proofs.Nopped.{found_by_number}
use Rattle.geo_laws_making.proofs.NewPlaces.{whole_sizes, filled-list, none-free, all-filled, all-differ, zip-places, IsAtPlace, at-place, concat-lands, sum-whole, smallest-le, stripe-lands}

-- the providers that are found by names are found by their numbers
names-found : (w : World) (names : List (List ℕ))
    → All (λ (p : Provider). provider_at w.topology p.number ≡ Some p) (found_providers w.topology names)
names-found w names =
    all_of (λ (p : Provider). provider_at w.topology p.number ≡ Some p) (found_providers w.topology names)
    (λ p here.
    let o = filter_map-Contains (λ name. option_and_then (provider_at w.topology)
    (find_provider w.topology name)) names p
    here in
    let n = through (provider_at w.topology) (find_provider w.topology o.item) p o.fact in
    found_by_number w n.first p n.then)

-- what the tests of a concat or a stripe leave
pub record CanJoin (w : World) (name : List ℕ) (config : Config) (wanted : ℕ) (ps : List Provider) (invalid : Bool)
    : Type 0 where
  pub free : is_name_taken w.topology name ≡ false
  pub all : length ps ≡ wanted
  pub valid : invalid ≡ false
  pub same : list_all (λ p. p.sector == sector_of ps) ps ≡ true
  pub some : 1 ≤ joined_size config
  pub limited : joined_size config ≤ MAX_MEDIA_BYTES
  pub low : rank_over w.topology ps ≤ MAX_RANK

-- so they do
joined-tested : (w : World) (name : List ℕ) (config : Config) (wanted : ℕ) (ps : List Provider) (invalid : Bool)
    → AllByRecursion (λ (test : Bool × Errno). test.0 ≡ false) (joined_tests w.topology name config wanted ps invalid)
    → CanJoin w name config wanted ps invalid
joined-tested w name config wanted ps invalid none =
    let f = or_parts invalid (is_invalid_joined config ps) none.1.1.1.0 in
    let g = or_parts (not (list_all (λ p. p.sector == sector_of ps) ps)) (not (is_size (joined_size config))) f.1 in
    let h = and_parts (nat_le 1 (joined_size config)) (nat_le (joined_size config) MAX_MEDIA_BYTES)
    (not-false (is_size (joined_size config)) g.1) in
    record {
      free = none.0;
      all = eqb-true (length ps) wanted (not-false (length ps == wanted) none.1.0);
      valid = f.0;
      same = not-false (list_all (λ p. p.sector == sector_of ps) ps) g.0;
      some = leb-true 1 (joined_size config) h.0;
      limited = leb-true (joined_size config) MAX_MEDIA_BYTES h.1;
      low = ltb-false MAX_RANK (rank_over w.topology ps) none.1.1.1.1.0;
    }

module _ (w : World) (firm : Firm w) (ps : List Provider)
    (found : All (λ (p : Provider). provider_at w.topology p.number ≡ Some p) ps)
    (same : list_all (λ (p : Provider). p.sector == sector_of ps) ps ≡ true) where
  -- the number of the first consumer
  abbrev n : ℕ
  n = w.topology.next_consumer

  -- each of them stands
  stands : (p : Provider) → Contains ps p → Contains w.topology.providers p
  stands p here =
      find-Contains (λ (x : Provider). x.number == p.number) w.topology.providers p
      (All-contains (λ (p : Provider). provider_at w.topology p.number ≡ Some p) ps p found here)

  -- has a size
  media : (p : Provider) → Contains ps p → IsMediaSize p.size p.sector
  media p here =
      All-contains (λ (x : Provider). IsMediaSize x.size x.sector) w.topology.providers p firm.graph.providers.sizes
      (stands p here)

  -- and the sector size of all
  sector : (p : Provider) → Contains ps p → p.sector ≡ sector_of ps
  sector p here = eqb-true p.sector (sector_of ps) (all_true (λ (p : Provider). p.sector == sector_of ps) ps
      same p here)

  -- which is one
  sector_size : IsSectorSize (sector_of ps)
  sector_size = by ps stands where
    -- by the first of them
    by : (qs : List Provider) → ((p : Provider) → Contains qs p → Contains w.topology.providers p)
        → IsSectorSize (sector_of qs)
    by [] so = inl refl
    by (q ∷ qs) so =
        All-contains (λ (x : Provider). IsSectorSize x.sector) w.topology.providers q firm.sizes.sectors
        (so q (Contains-here q qs))

  -- each place fits
  places_fit : AllZip (λ place size. IfSome (option_and_then (below_new n ps) place) (λ q.
      (size ≤ q.size) × (size % q.sector ≡ 0))) (new_places w.topology ps) (whole_sizes ps)
  places_fit =
      zip-places n ps (λ place size. IfSome (option_and_then (below_new n ps) place) (λ q.
      (size ≤ q.size) × (size % q.sector ≡ 0))) (λ c q e.
      if-found (below_new n ps c) (λ r. (q.size ≤ r.size) × (q.size % r.sector ≡ 0)) (λ r f.
      subst (λ (z : Provider). (q.size ≤ z.size) × (q.size % z.sector ≡ 0)) (one-found (below_new n ps c) q r e f)
      (omega arith, (media q (below-among n ps c q e)).whole)))

  -- a component with its place
  component_of : (k : ℕ) (there : IsAtPlace n ps k) → option_flatten (slice_get (new_places w.topology ps) k)
      ≡ Some there.consumer
  component_of k there = ap option_flatten there.at

  -- the one provider to be made can be offered, where its offsets are placed
  offers_one : (config : Config) (name : List ℕ) → is_name_taken w.topology name ≡ false → 1 ≤ joined_size config
      → joined_size config ≤ MAX_MEDIA_BYTES → joined_size config % sector_of ps ≡ 0
      → ((o : ℕ) → o < joined_size config → HasPlace config ps n (sector_of ps) name o)
      → All (CanOffer w config ps (sector_of ps)) (record { name = name; size = joined_size config } ∷ [])
  offers_one config name free some limited whole so =
      All-from_recursion (CanOffer w config ps (sector_of ps))
      (record { name = name; size = joined_size config } ∷ []) (
        record {
          free = free;
          size = record { positive = some; whole = whole; limited = limited };
          leads = inr so;
        },
        tt,
      )

  -- Concats

  -- the configuration
  abbrev concat : Config
  concat = concat_config w.topology ps

  -- its size is in whole sectors
  concat_whole : joined_size concat % sector_of ps ≡ 0
  concat_whole =
      mod-eq-zero_of_dvd (sector_of ps) (sum-whole (sector_of ps) ps
      (All-from_contained (λ (p : Provider). p.size % sector_of ps ≡ 0) ps (λ p here.
      subst (λ m. p.size % m ≡ 0) (sector p here) (media p here).whole)))

  -- each offset has its place
  concat_place : (name : List ℕ) (o : ℕ) → o < joined_size concat → HasPlace concat ps n (sector_of ps) name o
  concat_place name o short =
      let lands = concat-lands 0 n ps o short in
      let place = lands.fact.there in
      let number : lands.item.component ≡ lands.fact.place = (let e : lands.item.component ≡ 0 + lands.fact.place =
      lands.fact.is in omega arith) in
      some-with (concat_spot 0 (whole_sizes ps) o) (λ spot.
      IsSomeAnd (option_and_then (below_new n ps) (component concat spot.component)) (λ q.
      (spot.offset < q.size) × (q.sector ≡ sector_of ps))) lands.item lands.is
      (some-with (option_and_then (below_new n ps) (component concat lands.item.component)) (λ q.
      (lands.item.offset < q.size) × (q.sector ≡ sector_of ps)) place.provider
      (ap (λ k. option_and_then (below_new n ps) (component concat k)) number
      ∙ ap (option_and_then (below_new n ps)) (component_of lands.fact.place place) ∙ place.below)
      (lands.fact.inside, sector place.provider (below-among n ps place.consumer place.provider place.below)))

  -- so a concat can be made
  concat-can : (wanted : ℕ) (name : List ℕ) → length ps ≤ MAX_COMPONENTS
      → CanJoin w (concat_name name) concat wanted ps false
      → CanMake w kinds.Concat concat ps (sector_of ps)
      (record { name = concat_name name; size = joined_size concat } ∷ [])
  concat-can wanted name few can = record {
    fits = refl;
    dev = refl;
    taste = refl;
    found = found;
    low = can.low;
    wholes = all_of (λ (p : Provider). IsWholeIn concat p.sector) ps (λ p here. tt);
    filled = subst (All (λ c. IsSome (below_new n ps c))) (sym (filled-list (range_with_len n (length ps))))
        (All-from_recursion (λ c. IsSome (below_new n ps c)) (range_with_len n (length ps)) (all-filled n ps));
    apart = subst (AllPairs (λ a b. a ≢ b)) (sym (filled-list (range_with_len n (length ps))))
        (pairs-from_recursion (λ a b. a ≢ b) (range_with_len n (length ps)) (all-differ n (length ps)));
    few = subst (λ m. m ≤ MAX_COMPONENTS) (sym (length-map-range_with_len (λ c. Some c) n (length ps))) few;
    places = places_fit;
    disk = tt;
    sectors = sector_size;
    offers = offers_one concat (concat_name name) can.free can.some can.limited concat_whole
        (concat_place (concat_name name));
    names = pairs-from_recursion (λ (x y : NewSlice). same_name x.name y.name ≡ false)
        (record { name = concat_name name; size = joined_size concat } ∷ []) (tt, tt);
    partial = λ free. false_true (sym (none-free (range_with_len n (length ps))) ∙ free);
    one = λ kind. omega arith;
    sums = λ joined.
        All-from_recursion (λ (x : NewSlice). x.size ≡ joined_size concat)
        (record { name = concat_name name; size = joined_size concat } ∷ []) (refl, tt);
  }

  -- Stripes

  module _ (stripe : ℕ) (some_stripe : 1 ≤ stripe) (whole_stripe : stripe % sector_of ps ≡ 0) where
    -- the configuration
    abbrev striped : Config
    striped = stripe_config w.topology stripe ps

    -- the strips of each component
    abbrev rows : ℕ
    rows = smallest (whole_sizes ps) / stripe

    -- the number of components
    number_of : length (whole_sizes ps) ≡ length ps
    number_of = length-map ps (λ (p : Provider). p.size)

    -- its size is in whole sectors
    striped_whole : joined_size striped % sector_of ps ≡ 0
    striped_whole =
        mod-eq-zero_of_dvd (sector_of ps) (dvd-mul_left_of_dvd (sector_of ps)
        (dvd-mul_left_of_dvd (sector_of ps) (dvd_of_mod-eq-zero (sector_of ps) whole_stripe) rows)
        (length (whole_sizes ps)))

    -- each offset has its place
    striped_place : (name : List ℕ) (o : ℕ) → o < joined_size striped → HasPlace striped ps n (sector_of ps) name o
    striped_place name o short =
        let spot : Spot = stripe_spot (length (whole_sizes ps)) stripe o in
        let lands = stripe-lands (length (whole_sizes ps)) rows stripe o some_stripe short in
        let place = at-place n ps spot.component (subst (λ m. spot.component < m) number_of lands.component) in
        let here = below-among n ps place.consumer place.provider place.below in
        let low : smallest (whole_sizes ps) ≤ place.provider.size =
        smallest-le (whole_sizes ps) place.provider.size
        (Contains-map (λ (p : Provider). p.size) ps place.provider here) in
        let strips : rows * stripe ≤ smallest (whole_sizes ps) = div-mul-le_self (smallest (whole_sizes ps))
        stripe in
        let inside : spot.offset < rows * stripe = lands.inside in
        some-with (option_and_then (below_new n ps) (component striped spot.component)) (λ q.
        (spot.offset < q.size) × (q.sector ≡ sector_of ps)) place.provider
        (ap (option_and_then (below_new n ps)) (component_of spot.component place) ∙ place.below)
        (omega arith, sector place.provider here)

    -- so a stripe can be made
    stripe-can : (wanted : ℕ) (name : List ℕ) (invalid : Bool) → length ps ≤ MAX_COMPONENTS
        → CanJoin w (stripe_name name) striped wanted ps invalid
        → CanMake w kinds.Stripe striped ps (sector_of ps)
        (record { name = stripe_name name; size = joined_size striped } ∷ [])
    stripe-can wanted name invalid few can = record {
      fits = refl;
      dev = refl;
      taste = refl;
      found = found;
      low = can.low;
      wholes = all_of (λ (p : Provider). IsWholeIn striped p.sector) ps (λ p here.
          (some_stripe, subst (λ m. stripe % m ≡ 0) (sym (sector p here)) whole_stripe));
      filled = subst (All (λ c. IsSome (below_new n ps c))) (sym (filled-list (range_with_len n (length ps))))
          (All-from_recursion (λ c. IsSome (below_new n ps c)) (range_with_len n (length ps)) (all-filled n ps));
      apart = subst (AllPairs (λ a b. a ≢ b)) (sym (filled-list (range_with_len n (length ps))))
          (pairs-from_recursion (λ a b. a ≢ b) (range_with_len n (length ps)) (all-differ n (length ps)));
      few = subst (λ m. m ≤ MAX_COMPONENTS) (sym (length-map-range_with_len (λ c. Some c) n (length ps))) few;
      places = places_fit;
      disk = tt;
      sectors = sector_size;
      offers = offers_one striped (stripe_name name) can.free can.some can.limited striped_whole
          (striped_place (stripe_name name));
      names = pairs-from_recursion (λ (x y : NewSlice). same_name x.name y.name ≡ false)
          (record { name = stripe_name name; size = joined_size striped } ∷ []) (tt, tt);
      partial = λ free. false_true (sym (none-free (range_with_len n (length ps))) ∙ free);
      one = λ kind. absurd (let no : ⊥ = cc in no);
      sums = λ joined.
          All-from_recursion (λ (x : NewSlice). x.size ≡ joined_size striped)
          (record { name = stripe_name name; size = joined_size striped } ∷ []) (refl, tt);
    }

-- as many as were named are no more than there may be
few_found : (ps : List Provider) (wanted : ℕ) → wanted ≤ MAX_COMPONENTS → length ps ≡ wanted
    → length ps ≤ MAX_COMPONENTS
few_found ps wanted few all = subst (λ m. m ≤ MAX_COMPONENTS) (sym all) few

-- a concat over what is found keeps a firm world firm
concat-firm : (w : World) (line : ℕ) (name : List ℕ) (wanted : ℕ) (ps : List Provider) → wanted ≤ MAX_COMPONENTS
    → All (λ (p : Provider). provider_at w.topology p.number ≡ Some p) ps → Firm w
    → Firm (do_concat w line name wanted ps).0
concat-firm w line name wanted ps few found firm =
    let config : Config = concat_config w.topology ps in
    answered-firm w line (joined_tests w.topology (concat_name name) config wanted ps false)
    (with_made w kinds.Concat name config ps (concat_name name) (joined_size config) (sector_of ps)) firm (λ none.
    let can = joined-tested w (concat_name name) config wanted ps false none in
    made-firm w kinds.Concat name config false ps (sector_of ps)
    (record { name = concat_name name; size = joined_size config } ∷ []) firm
    (concat-can w firm ps found can.same wanted name (few_found ps wanted few can.all) can))

-- so does a stripe
stripe-firm : (w : World) (line : ℕ) (name : List ℕ) (stripe wanted : ℕ) (ps : List Provider) → 1 ≤ stripe
    → wanted ≤ MAX_COMPONENTS → All (λ (p : Provider). provider_at w.topology p.number ≡ Some p) ps → Firm w
    → Firm (do_stripe w line name stripe wanted ps).0
stripe-firm w line name stripe wanted ps some few found firm =
    let config : Config = stripe_config w.topology stripe ps in
    answered-firm w line
    (joined_tests w.topology (stripe_name name) config wanted ps (is_invalid_stripe stripe ps))
    (with_made w kinds.Stripe name config ps (stripe_name name) (joined_size config) (sector_of ps)) firm (λ none.
    let can = joined-tested w (stripe_name name) config wanted ps (is_invalid_stripe stripe ps) none in
    let whole = eqb-true (stripe % sector_of ps) 0 (not-false (stripe % sector_of ps == 0)
    (or_parts (not (stripe % sector_of ps == 0)) (nat_lt MAX_STRIPE_BYTES stripe) can.valid).0) in
    made-firm w kinds.Stripe name config false ps (sector_of ps)
    (record { name = stripe_name name; size = joined_size config } ∷ []) firm
    (stripe-can w firm ps found can.same stripe some whole wanted name (is_invalid_stripe stripe ps)
    (few_found ps wanted few can.all) can))

-- so say all concats
pub concats_stay : ConcatsStayFirm
concats_stay = record {
  concat = λ w line name provs few firm.
      concat-firm w line name (length provs) (found_providers w.topology provs) few (names-found w provs) firm;
}

-- and all stripes
pub stripes_stay : StripesStayFirm
stripes_stay = record {
  stripe = λ w line name stripe provs some few firm.
      stripe-firm w line name stripe (length provs) (found_providers w.topology provs) some few
      (names-found w provs) firm;
}
