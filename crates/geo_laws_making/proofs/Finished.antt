-- An assembly whose places are all filled gets its provider: the mesh with it is firm.
use Rattle.std.specs.Prelude.{◌≡◌, ℕ, zero, suc, ◌+◌, ◌-◌, ◌*◌, ◌/◌, ◌%◌, ◌<◌, ◌≤◌, nat_lt, Bool, true, false, List, [], ◌∷◌, length, sum, Option, Some, Contains, option_and_then, slice_get, ◌≢◌, ◌⊎◌, ◌==◌, ◌++◌, None, is_some, is_none, All, IsSome, IsSomeAnd, IfSome}
use Rattle.std.specs.List.{AllZip, list_all, list_any}
use Rattle.std.proofs.Common.{refl, sym, subst, arith, inl, inr, ◌∙◌, ap}
use Rattle.std.proofs.lemmas.Bool.{ltb-true, ltb-false, eq-eqb, eqb-true}
use Rattle.std.proofs.lemmas.List.Sums.{sum_by-cons}
use Rattle.std.proofs.lemmas.Nat.Gcd.{dvd-zero, dvd_of_mod-eq-zero, mod-eq-zero_of_dvd}
use Rattle.std.proofs.Math.Nat.{dvd-add, dvd-mul_left_of_dvd, div-mul-le_self}
use Prim.Native.Nat.{◌∣◌}
use Rattle.geo_model.specs.Topology.{Topology, Provider, Consumer, provider_at, consumer_at, Geom, geom_at, providers_of, add_provider}
use Rattle.geo_model.specs.World.{Config, Concat, Stripe, World, granted_in}
use Rattle.geo_model.specs.Place.{Spot, place, concat_spot, stripe_spot, component, components, disk_of}
use Rattle.geo_model.specs.Acceptance.{places_of, joined_size, smallest, NewSlice}
use Rattle.geo_model.specs.Fitting.{IsWholeIn, sizes_of, FitsBelow, FitsPlace, FitsPlaces, PlacesHold, Firm}
use Rattle.geo_laws_graph.proofs.Members.{Contains-here, Contains-there, has, find-Contains}
use Rattle.geo_laws_life.proofs.Found.{FoundWith, found-with, some-with, some-there, if-found, at-found}
use Rattle.geo_laws_making.proofs.NewPlaces.{smallest-le, stripe-lands}
use Rattle.geo_laws_making.specs.PlaceLaws.{IsAssembly, IsOpenAssembly}
use Rattle.std.specs.Option.{option_flatten}
use Rattle.std.proofs.lemmas.List.Elements.{All-contains, All-from_recursion, Contains-push_cases}
use Rattle.geo_base.proofs.MemberLists.{zip_members}
use Rattle.geo_model.specs.Rank.{rank}
use Rattle.geo_model.specs.Demand.{want, is_zero}
use Rattle.geo_model.specs.Events.{offer}
use Rattle.geo_model.specs.WorldEvents.{queued_of, with_queued}
use Rattle.geo_model.specs.Graph.{IsInOrder, PartsLive}
use Rattle.geo_model.specs.Sound.{IsMediaSize, IsPlaceInside, IsPlaced}
use Rattle.geo_model.specs.Steady.{HasItsComponents}
use Rattle.geo_laws_graph.specs.LookupLaws.{new_provider}
use Rattle.geo_laws_graph.proofs.Found.{added-provider}
use Rattle.geo_laws_graph.proofs.Living.{found-before, sound-order, steady-parts}
use Rattle.geo_laws_counts.specs.CountWords.{IsAtMost}
use Rattle.geo_laws_counts.proofs.LimitFacts.{all_true}
use Rattle.geo_laws_counts.proofs.Sums.{at_most-same}
use Rattle.geo_laws_life.proofs.Frames.{FitsOver}
use Rattle.geo_laws_making.proofs.Over.{false_true}
use Rattle.geo_laws_making.proofs.Offered.{KeepsGraph, offered-keeps, offered-living, offered-names}
use Rattle.geo_laws_making.specs.MoreLaws.{IsUntouched, GeomFits, ProviderFits, IsMore}
use Rattle.geo_laws_making.proofs.MoreFirm.{more-firm, tastes-low}
use Rattle.geo_laws_making.proofs.PlaceTaken.{has-places, in-places, is-there, its-class, isnt-dev, isnt-taste, offers-not, only-one, component-there}
use Rattle.geo_laws_making.specs.AssemblyLaws.{CanFinish, FinishesStayFirm}

-- An assembly whose places are all filled: where each offset lands, and that its size is in whole sectors.

-- a place is filled by a consumer of the geom, at a provider that its component fits
pub record HasBelow (t : Topology Config) (n sector : ℕ) (item : Option ℕ) (size : ℕ) : Type 0 where
  pub number : ℕ
  pub is : item ≡ Some number
  pub consumer : Consumer
  pub found : consumer_at t number ≡ Some consumer
  pub geom : consumer.geom ≡ n
  pub provider : Provider
  pub below : option_and_then (provider_at t) consumer.provider ≡ Some provider
  pub fits : size ≤ provider.size
  pub whole : size % provider.sector ≡ 0
  pub same : provider.sector ≡ sector

-- what is at a place of two lists
pub record IsAt {A B : Type 0} (R : A → B → Type 0) (xs : List A) (ys : List B) (k : ℕ) : Type 0 where
  pub item : A
  pub size : B
  pub at : slice_get xs k ≡ Some item
  pub among : Contains ys size
  pub fact : R item size

-- so for each place
pub zip-at : {A B : Type 0} (R : A → B → Type 0) (xs : List A) (ys : List B) (k : ℕ) → AllZip R xs ys
    → k < length ys
    → IsAt R xs ys k
zip-at R [] [] k facts short = absurd (omega (arith, short))
zip-at R [] (y ∷ ys) k facts short = absurd facts
zip-at R (x ∷ xs) [] k facts short = absurd facts
zip-at R (x ∷ xs) (y ∷ ys) zero facts short =
    record { item = x; size = y; at = refl; among = Contains-here y ys; fact = facts.0 }
zip-at R (x ∷ xs) (y ∷ ys) (suc k) facts short =
    let rest = zip-at R xs ys k facts.1 (omega (arith, short)) in
    record {
      item = rest.item;
      size = rest.size;
      at = rest.at;
      among = Contains-there y rest.size ys rest.among;
      fact = rest.fact;
    }

-- a spot is at a place, counted from k, before the end of its component
pub record LandsAt (R : Option ℕ → ℕ → Type 0) (places : List (Option ℕ)) (k : ℕ) (spot : Spot) : Type 0 where
  pub place : ℕ
  pub is : spot.component ≡ k + place
  pub item : Option ℕ
  pub size : ℕ
  pub at : slice_get places place ≡ Some item
  pub fact : R item size
  pub inside : spot.offset < size

module _ (R : Option ℕ → ℕ → Type 0) where
  -- where the first component ends, by whether the offset is in it
  lands_by : (k : ℕ) (a : Option ℕ) (places : List (Option ℕ)) (size : ℕ) (sizes : List ℕ) (o : ℕ) → R a size
      → (size ≤ o → FoundWith (concat_spot (k + 1) sizes (o - size)) (LandsAt R places (k + 1)))
      → (b : Bool) → nat_lt o size ≡ b
      → FoundWith (concat_spot k (size ∷ sizes) o) (LandsAt R (a ∷ places) k)
  lands_by k a places size sizes o here rest true e = record {
    item = record { component = k; offset = o };
    is = rw e refl;
    fact = record {
      place = 0;
      is = omega arith;
      item = a;
      size = size;
      at = refl;
      fact = here;
      inside = ltb-true o size e;
    };
  }
  lands_by k a places size sizes o here rest false e =
      let more = rest (ltb-false o size e) in
      let is : more.item.component ≡ k + 1 + more.fact.place = more.fact.is in
      record {
        item = more.item;
        is = rw e more.is;
        fact = record {
          place = suc more.fact.place;
          is = omega arith;
          item = more.fact.item;
          size = more.fact.size;
          at = more.fact.at;
          fact = more.fact.fact;
          inside = more.fact.inside;
        };
      }

  -- each offset of a concat lands in a component
  concat-lands : (k : ℕ) (places : List (Option ℕ)) (sizes : List ℕ) (o : ℕ) → AllZip R places sizes → o < sum sizes
      → FoundWith (concat_spot k sizes o) (LandsAt R places k)
  concat-lands k [] [] o facts short = absurd (omega (arith, short))
  concat-lands k [] (size ∷ sizes) o facts short = absurd facts
  concat-lands k (a ∷ places) [] o facts short = absurd facts
  concat-lands k (a ∷ places) (size ∷ sizes) o facts short =
      let all : sum (size ∷ sizes) ≡ size + sum sizes = sum_by-cons (λ (m : ℕ). m) size sizes in
      lands_by k a places size sizes o facts.0 (λ high.
      concat-lands (k + 1) places sizes (o - size) facts.1 (omega arith)) (nat_lt o size) refl

  -- and each of a stripe
  stripe_lands : (places : List (Option ℕ)) (sizes : List ℕ) (stripe o : ℕ) → AllZip R places sizes → 1 ≤ stripe
      → o < length sizes * ((smallest sizes / stripe) * stripe)
      → LandsAt R places 0 (stripe_spot (length sizes) stripe o)
  stripe_lands places sizes stripe o facts some short =
      let lands = stripe-lands (length sizes) (smallest sizes / stripe) stripe o some short in
      let at = zip-at R places sizes (stripe_spot (length sizes) stripe o).component facts lands.component in
      let low : smallest sizes ≤ at.size = smallest-le sizes at.size at.among in
      let strips : smallest sizes / stripe * stripe ≤ smallest sizes = div-mul-le_self (smallest sizes) stripe in
      let inside : (stripe_spot (length sizes) stripe o).offset < smallest sizes / stripe * stripe = lands.inside in
      record {
        place = (stripe_spot (length sizes) stripe o).component;
        is = omega arith;
        item = at.item;
        size = at.size;
        at = at.at;
        fact = at.fact;
        inside = omega arith;
      }

  -- so each offset of an assembly lands in a component
  pub assembly-lands : (config : Config) (sector : ℕ) (name : List ℕ) (o : ℕ) → IsAssembly config
      → IsWholeIn config sector
      → AllZip R (places_of config) (sizes_of config) → o < joined_size config
      → FoundWith (place config name o) (LandsAt R (places_of config) 0)
  assembly-lands (Concat id places sizes) sector name o is whole facts short =
      concat-lands 0 places sizes o facts short
  assembly-lands (Stripe id stripe places sizes) sector name o is whole facts short = record {
    item = stripe_spot (length sizes) stripe o;
    is = refl;
    fact = stripe_lands places sizes stripe o facts whole.0 short;
  }
  assembly-lands _ sector name o is whole facts short = absurd is

-- the sum of sizes in whole sectors is one
sum_whole : (sector : ℕ) (places : List (Option ℕ)) (sizes : List ℕ)
    → AllZip (λ (a : Option ℕ) b. b % sector ≡ 0) places sizes
    → sector ∣ sum sizes
sum_whole sector [] [] facts = dvd-zero sector
sum_whole sector [] (b ∷ bs) facts = absurd facts
sum_whole sector (a ∷ places) [] facts = absurd facts
sum_whole sector (a ∷ places) (b ∷ bs) facts =
    subst (λ m. sector ∣ m) (sym (sum_by-cons (λ (m : ℕ). m) b bs))
    (dvd-add sector (dvd_of_mod-eq-zero sector facts.0) (sum_whole sector places bs facts.1))

-- so is the size of an assembly
pub assembly-whole : (config : Config) (sector : ℕ) → IsAssembly config → IsWholeIn config sector
    → AllZip (λ (a : Option ℕ) b. b % sector ≡ 0) (places_of config) (sizes_of config)
    → joined_size config % sector ≡ 0
assembly-whole (Concat id places sizes) sector is whole facts =
    mod-eq-zero_of_dvd sector (sum_whole sector places sizes facts)
assembly-whole (Stripe id stripe places sizes) sector is whole facts =
    mod-eq-zero_of_dvd sector (dvd-mul_left_of_dvd sector
    (dvd-mul_left_of_dvd sector (dvd_of_mod-eq-zero sector whole.1) (smallest sizes / stripe)) (length sizes))
assembly-whole _ sector is whole facts = absurd is

-- An assembly whose places are all filled gets its provider: the graph has come to more, and a firm world with it
-- is firm.

-- where all are filled, none is free
none_free : (places : List (Option ℕ)) → list_all is_some places ≡ true → list_any is_none places ≡ false
none_free [] full = refl
none_free (Some c ∷ places) full = none_free places full
none_free (None ∷ places) full = false_true full

module _ (w : World) (g : Geom Config) (name : List ℕ) (sector : ℕ) (firm : Firm w) (waits : IsOpenAssembly w g)
    (can : CanFinish w g name sector) where
  -- the graph before
  abbrev t : Topology Config
  t = w.topology

  -- the number of the geom
  abbrev n : ℕ
  n = g.number

  -- the size of the provider
  abbrev size : ℕ
  size = joined_size g.config

  -- the provider to be made
  abbrev slice : NewSlice
  slice = record { name = name; size = size }

  -- the graph with it
  abbrev u : Topology Config
  u = add_provider t n name size sector

  -- before, all stood in order
  order : IsInOrder t
  order = sound-order w firm.graph.numbers

  -- and lived
  live : PartsLive t
  live = steady-parts t firm.graph.parts firm.graph.attached

  -- the geom was one of them
  here : Contains t.geoms g
  here = is-there w g firm waits

  -- the graph keeps what it has
  kept : KeepsGraph (granted_in w) t u
  kept =
      offered-keeps n sector (granted_in w) (slice ∷ []) (queued_of w) (isnt-dev w g firm waits)
      (isnt-taste w g firm waits)
      (some-there (geom_at t n) g waits.stands) order live firm.graph.ranks

  -- a provider that was found is found
  provider_still : (m : ℕ) (x : Provider) → provider_at t m ≡ Some x → provider_at u m ≡ Some x
  provider_still m x e = found-before (λ (z : Provider). z.number == m) t.providers _ x e

  -- what a consumer is attached to is what it was
  below_still : (x : Consumer) → Contains t.consumers x
      → option_and_then (provider_at u) x.provider ≡ option_and_then (provider_at t) x.provider
  below_still x stands =
      by x.provider (All-contains (λ (c : Consumer). IsSome (option_and_then (provider_at t) c.provider))
      t.consumers x firm.graph.attached stands) where
        -- by what it names
        by : (o : Option ℕ) → IsSome (option_and_then (provider_at t) o)
            → option_and_then (provider_at u) o ≡ option_and_then (provider_at t) o
        by None there = refl
        by (Some m) there = let q = has (provider_at t m) there in provider_still m q.item q.is ∙ sym q.is

  -- a consumer that is found is one of them
  consumer_here : (d : ℕ) (x : Consumer) → consumer_at t d ≡ Some x → Contains t.consumers x
  consumer_here d x e = find-Contains (λ (z : Consumer). z.number == d) t.consumers x e

  -- each place has its component below
  all_below : AllZip (HasBelow t n sector) (places_of g.config) (sizes_of g.config)
  all_below =
      zip_members (FitsPlace t n) (HasBelow t n sector) (places_of g.config) (sizes_of g.config) one
      (All-contains (FitsPlaces t) t.geoms g firm.sizes.places here)
    where
      -- one place
      one : (a : Option ℕ) (b : ℕ) → Contains (places_of g.config) a → FitsPlace t n a b → HasBelow t n sector a b
      one a b stands fact =
          let d = has a (all_true is_some (places_of g.config) can.full a stands) in
          let among : Contains (components g.config) d.item =
          subst (λ xs. Contains xs d.item) (sym (has-places g.config waits.assembly).components_are)
          (in-places (places_of g.config) d.item (subst (Contains (places_of g.config)) d.is stands)) in
          let x = found-with (consumer_at t d.item) (λ x. (x.geom ≡ n) × IsSome x.provider)
          (component-there w g firm waits d.item among) in
          let q = has (option_and_then (provider_at t) x.item.provider)
          (All-contains (λ (c : Consumer). IsSome (option_and_then (provider_at t) c.provider)) t.consumers x.item
          firm.graph.attached (consumer_here d.item x.item x.is)) in
          let fits = at-found (option_and_then (provider_at t) x.item.provider)
          (λ q. (b ≤ q.size) × (b % q.sector ≡ 0)) q.item q.is
          (at-found (option_and_then (consumer_at t) a)
          (FitsOver t n b) x.item (ap (option_and_then (consumer_at t)) d.is ∙ x.is) fact x.fact.0) in
          record {
            number = d.item;
            is = d.is;
            consumer = x.item;
            found = x.is;
            geom = x.fact.0;
            provider = q.item;
            below = q.is;
            fits = fits.0;
            whole = fits.1;
            same = can.same d.item x.item q.item among x.is q.is;
          }

  -- the size is one
  size_is : IsMediaSize size sector
  size_is = record {
    positive = can.some;
    whole = assembly-whole g.config sector waits.assembly can.whole
        (zip_members (HasBelow t n sector) (λ (a : Option ℕ) b. b % sector ≡ 0) (places_of g.config)
        (sizes_of g.config)
        (λ a b stands has_below. subst (λ m. b % m ≡ 0) has_below.same has_below.whole) all_below);
    limited = can.limited;
  }

  -- the new provider
  abbrev new : Provider
  new = new_provider t n name size sector

  -- each offset of it is placed
  placed : IsPlaced u g new
  placed o short =
      let lands =
      assembly-lands (HasBelow t n sector) g.config sector name o waits.assembly can.whole all_below short in
      let below = lands.fact.fact in
      let number : lands.item.component ≡ lands.fact.place =
      (let e : lands.item.component ≡ 0 + lands.fact.place = lands.fact.is in omega arith) in
      let inside : lands.item.offset < lands.fact.size = lands.fact.inside in
      let fits : lands.fact.size ≤ below.provider.size = below.fits in
      let at : component g.config lands.item.component ≡ Some below.number =
      ap (component g.config) number ∙ (has-places g.config waits.assembly).component_is lands.fact.place
      ∙ ap option_flatten lands.fact.at ∙ below.is in
      some-with (place g.config name o) (IsPlaceInside u g new) lands.item lands.is
      (some-with (option_and_then (consumer_at t) (component g.config lands.item.component)) (λ d. (d.geom ≡ n)
      × IsSomeAnd (option_and_then (provider_at u) d.provider)
      (λ q. (lands.item.offset < q.size) × (q.sector ≡ sector)))
      below.consumer (ap (option_and_then (consumer_at t)) at ∙ below.found) (
        below.geom,
        some-with (option_and_then (provider_at u) below.consumer.provider)
            (λ q. (lands.item.offset < q.size) × (q.sector ≡ sector)) below.provider
            (below_still below.consumer (consumer_here below.number below.consumer below.found) ∙ below.below)
            (omega arith, below.same),
      ))

  -- so it fits
  new_fits : ProviderFits u g new
  new_fits = record { geom = refl; sector = can.sectors; size = size_is; leads = inr placed }

  -- The geom

  -- it has the one provider
  own : providers_of u n ≡ new ∷ []
  own = added-provider.own t n name size sector ∙ ap (λ xs. xs ++ new ∷ []) waits.offers_none

  -- its places fit
  fits_places : FitsPlaces u g
  fits_places =
      zip_members (FitsPlace t n) (FitsPlace u n) (places_of g.config) (sizes_of g.config) one
      (All-contains (FitsPlaces t) t.geoms g firm.sizes.places here)
    where
      -- one place
      one : (a : Option ℕ) (b : ℕ) → Contains (places_of g.config) a → FitsPlace t n a b → FitsPlace u n a b
      one None b stands fact = tt
      one (Some d) b stands fact =
          if-found (consumer_at t d) (FitsOver u n b) (λ x e own_one.
          subst (λ o. IfSome o (λ q. (b ≤ q.size) × (b % q.sector ≡ 0)))
          (sym (below_still x (consumer_here d x e)))
          (at-found (consumer_at t d) (FitsOver t n b) x e fact own_one))

  -- the geom fits
  geom_fits : GeomFits w u g
  geom_fits = record {
    dev = isnt-dev w g firm waits;
    taste = isnt-taste w g firm waits;
    class = its-class w g firm waits;
    upright = waits.upright;
    disk_sizes = if-found (disk_of g.config) _ (λ d e.
        let none = (has-places g.config waits.assembly).no_disk in
        absurd (let no : ⊥ = cc in no));
    components = All-contains (HasItsComponents (granted_in w) t) t.geoms g firm.demand.components here
        (inl waits.upright);
    partial = λ free. false_true (sym (none_free (places_of g.config) can.full) ∙ free);
    places = fits_places;
    one = λ concat. let all : length (providers_of u n) ≡ 1 = ap length own in omega arith;
    apart = All-contains PlacesHold t.geoms g firm.sizes.apart here;
    sums = λ joined.
        subst (All (λ (x : Provider). x.size ≡ size)) (sym own)
        (All-from_recursion (λ (x : Provider). x.size ≡ size) (new ∷ []) (refl, tt));
  }

  -- a geom is another one or the one
  geom_cases : (y : Geom Config) → Contains t.geoms y → (Contains t.geoms y × (y.number ≢ n)) ⊎ (y ≡ g)
  geom_cases y stands = by (y.number == n) refl where
    -- by whether it is the one
    by : (b : Bool) → (y.number == n) ≡ b → (Contains t.geoms y × (y.number ≢ n)) ⊎ (y ≡ g)
    by true e = inr (only-one w g firm waits y stands (eqb-true y.number n e))
    by false e = inl (stands, λ same. false_true (sym e ∙ eq-eqb y.number n same))

  -- a provider was there, or is the new one
  provider_cases : (y : Provider) → Contains u.providers y
      → (Contains t.providers y × (y.geom ≢ n)) ⊎ ProviderFits u g y
  provider_cases y stands =
      elim (Contains-push_cases t.providers new y stands) [
        | inl old ↦ inl (old, offers-not w g firm waits y old)
        | inr it ↦ inr (subst (ProviderFits u g) it new_fits)
      ]

  -- what stood stands as it stood
  untouched : (m : ℕ) → IsUntouched t u g m
  untouched m x e = (
    provider_still m x e,
    offers-not w g firm waits x
        (find-Contains (λ (z : Provider). z.number == m) t.providers x e),
  )

  -- the graph has come to more
  finished-more : IsMore w u g
  finished-more = record {
    order = kept.order;
    live = kept.live;
    ranks = kept.ranks;
    exclusive = kept.demand.exclusive firm.demand.counts.exclusive;
    limited = kept.demand.limit firm.demand.counts.limited;
    old_geoms = λ m x apart e. e;
    old_providers = λ m x e.
        record { now = x; found = provider_still m x e; is = record { same = refl; larger = omega arith } };
    old_consumers = λ m x e. e;
    stands = waits.stands;
    geoms = geom_cases;
    providers = provider_cases;
    consumers = λ y stands. inl stands;
    others = λ m apart. added-provider.others_of t n name size sector m apart;
    dev = refl;
    tasting = refl;
    names = offered-names n sector (slice ∷ []) (queued_of w) (can.free, tt) (tt, tt) firm.graph.providers.names;
    disks = firm.graph.numbers.one_geom_of_disk;
    wholes = λ y stands own_one.
        subst (λ o. IfSome o (λ q. IsWholeIn g.config q.sector)) (sym (below_still y stands))
        (at-found (geom_at t y.geom) (λ h. IfSome (option_and_then (provider_at t) y.provider) (λ q.
        IsWholeIn h.config q.sector)) g (ap (geom_at t) own_one ∙ waits.stands)
        (All-contains (FitsBelow t) t.consumers y firm.sizes.wholes stands));
    fits = geom_fits;
    wants = λ y stands.
        subst (λ a. IsAtMost (want (granted_in w) t y) a) (sym (kept.demand.wants y tt))
        (at_most-same (want (granted_in w) t y));
    opened = λ y stands used. inl (sym (ap is_zero (kept.demand.haves y.number)) ∙ used);
    bios = λ x stands. untouched x.target;
    tasted = if-found w.taste (λ s. IsUntouched t u g s.provider) (λ s e. untouched s.provider);
    rank = tastes-low w u firm (λ s e x is h of. (
      ap (option_and_then (λ (z : Provider). geom_at t z.geom)) (provider_still s.provider x is) ∙ of,
      kept.same h.number,
    ));
  }

  -- so the world is firm
  pub finished-firm : Firm (with_queued w (offer (queued_of w) n name size sector))
  finished-firm =
      more-firm w u g firm finished-more (offer (queued_of w) n name size sector).events
      (offered-living n sector (slice ∷ []) (queued_of w) order firm.taste.living)

-- so say all completions
pub finishes_stay : FinishesStayFirm
finishes_stay = record { finish = λ w g name sector firm waits can. finished-firm w g name sector firm waits can }
