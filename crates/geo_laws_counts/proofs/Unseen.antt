-- What counts see of a graph is all that demand depends on, so other changes leave it.
use Rattle.std.specs.Prelude.{◌≡◌, ℕ, zero, suc, ◌==◌, nat_le, Bool, true, false, ◌&&◌, ◌||◌, cond, List, [], ◌∷◌, map, filter, find, Option, Some, None, length, option_map, ◌+◌, if◌then◌else◌}
use Rattle.std.specs.List.{list_all}
use Rattle.std.specs.Option.{option_map_or}
use Rattle.std.proofs.Common.{refl, sym, ◌∙◌, ap}
use Rattle.std.proofs.lemmas.List.{length-map}
use Rattle.std.proofs.lemmas.Simd.{map-map}
use Rattle.geo_model.proofs.FindLists.{find-map}
use Rattle.geo_model.proofs.FilterLists.{filter-map}
use Rattle.geo_model.specs.Kind.{Kind}
use Rattle.geo_model.specs.Counts.{Counts}
use Rattle.geo_model.specs.TheConstants.{MAX_ACCESS_COUNT}
use Rattle.geo_model.specs.Words.{names_number, change_where}
use Rattle.geo_model.specs.Topology.{Topology, Geom, Provider, Consumer, geom_at, providers_of, attached_to, set_error, set_size, set_withering, set_marks, set_config, note_started, with_configs}
use Rattle.geo_model.specs.Demand.{no_counts, sum_counts, want_of_kind, want_given, have_within, have, want, is_exclusive, fits_limit}
use Rattle.geo_laws_counts.specs.CountWords.{Seen, seen_by_counts, DemandStays, AnyConsumer}
use Rattle.geo_laws_counts.proofs.Sums.{sum-same, of_each, want_over, want_given-same}

-- Lists

-- what is kept and mapped, from what is seen of the items
map-filter_map : {X Y Z : Type 0} (f : Y → Z) (test : Y → Bool) (see : X → Y) (xs : List X)
    → map (λ x. f (see x)) (filter (λ x. test (see x)) xs) ≡ map f (filter test (map see xs))
map-filter_map f test see [] = refl
map-filter_map {Z = Z} f test see (x ∷ xs) = step (test (see x)) (map-filter_map f test see xs)
  where
    step : (b : Bool) → map (λ x. f (see x)) (filter (λ x. test (see x)) xs) ≡ map f (filter test (map see xs))
        → map (λ x. f (see x)) (cond b (x ∷ filter (λ x. test (see x)) xs) (filter (λ x. test (see x)) xs))
        ≡ map f (cond b (see x ∷ filter test (map see xs)) (filter test (map see xs)))
    step true more = ap (λ ys. f (see x) ∷ ys) more
    step false more = more

-- a test of all items, from what is seen of them
list_all-filter_map : {X Y : Type 0} (p : X → Bool) (q : Y → Bool) (see : X → Y) → ((x : X) → p x ≡ q (see x))
    → (xs : List X)
    → list_all p xs ≡ list_all q (map see xs)
list_all-filter_map p q see same [] = refl
list_all-filter_map p q see same (x ∷ xs) =
    ap (λ b. b && list_all p xs) (same x) ∙ ap (λ b. q (see x) && b) (list_all-filter_map p q see same xs)

-- Counts of what is seen

module _ (granted : ℕ → Counts) where
  -- what a consumer of this number and geom wants
  abbrev want_seen : (ℕ → Counts) → Seen → ℕ → ℕ → Counts
  want_seen H s n g =
      option_map_or
      (λ (k : ℕ × Kind). want_of_kind k.1 (map (λ x. H x.0) (filter (λ x. x.1 == k.0) s.providers)) (granted n))
      (find (λ k. k.0 == g) s.geoms)
      no_counts

  -- the counts of a provider over so many levels
  abbrev have_seen_within : ℕ → Seen → ℕ → Counts
  have_seen_within zero s p = no_counts
  have_seen_within (suc k) s p =
      sum_counts (map (λ c. want_seen (have_seen_within k s) s c.0 c.1) (filter (λ c. names_number c.2 p) s.consumers))

  -- the counts of a provider
  abbrev have_seen : Seen → ℕ → Counts
  have_seen s p = have_seen_within (length s.geoms) s p

  -- the want of a consumer of a found geom is seen
  want_over_seen : {C : Type 0} (H : ℕ → Counts) (t : Topology C) (n : ℕ) (o : Option (Geom C))
      → want_over H (granted n) t o
      ≡ option_map_or
      (λ (k : ℕ × Kind).
      want_of_kind k.1 (map (λ x. H x.0) (filter (λ x. x.1 == k.0) (seen_by_counts t).providers)) (granted n))
      (option_map (λ (g : Geom C). (g.number, g.kind)) o) no_counts
  want_over_seen {C} H t n None = refl
  want_over_seen {C} H t n (Some g) =
      ap (λ haves. want_of_kind g.kind haves (granted n))
      (map-filter_map (λ (x : ℕ × ℕ). H x.0) (λ (x : ℕ × ℕ). x.1 == g.number)
      (λ (x : Provider). (x.number, x.geom)) t.providers)

  -- the want of any consumer is seen
  want_given_seen : {C : Type 0} (H : ℕ → Counts) (t : Topology C) (c : Consumer)
      → want_given granted H t c ≡ want_seen H (seen_by_counts t) c.number c.geom
  want_given_seen {C} H t c =
      want_over_seen H t c.number (geom_at t c.geom)
      ∙ ap
      (λ o. option_map_or
      (λ (k : ℕ × Kind).
      want_of_kind k.1 (map (λ x. H x.0) (filter (λ x. x.1 == k.0) (seen_by_counts t).providers))
      (granted c.number)) o no_counts)
      (sym (find-map (λ (k : ℕ × Kind). k.0 == c.geom) (λ (g : Geom C). (g.number, g.kind)) t.geoms))

  -- counts over so many levels are seen
  within_seen : {C : Type 0} (t : Topology C) (k p : ℕ)
      → have_within granted k t p ≡ have_seen_within k (seen_by_counts t) p
  within_seen t zero p = refl
  within_seen t (suc k) p =
      let s : Seen = seen_by_counts t in
      sum-same (want_given granted (have_within granted k t) t)
      (λ c. want_seen (have_seen_within k s) s c.number c.geom) (attached_to t p)
      (of_each (λ (c : Consumer). want_given granted (have_within granted k t) t c
      ≡ want_seen (have_seen_within k s) s c.number c.geom)
      (λ c.
      want_given-same granted (have_within granted k t) (have_seen_within k s) t c
      (of_each (λ (y : Provider). have_within granted k t y.number ≡ have_seen_within k s y.number)
      (λ y. within_seen t k y.number) (providers_of t c.geom))
      ∙ want_given_seen (have_seen_within k s) t c)
      (attached_to t p))
      ∙ ap sum_counts
      (map-filter_map (λ (c : ℕ × ℕ × Option ℕ). want_seen (have_seen_within k s) s c.0 c.1)
      (λ (c : ℕ × ℕ × Option ℕ). names_number c.2 p)
      (λ (c : Consumer). (c.number, c.geom, c.provider)) t.consumers)

  -- counts are seen
  have_of_seen : {C : Type 0} (t : Topology C) (p : ℕ) → have granted t p ≡ have_seen (seen_by_counts t) p
  have_of_seen {C} t p =
      within_seen t (length t.geoms) p
      ∙ ap (λ k. have_seen_within k (seen_by_counts t) p)
      (sym (length-map t.geoms (λ (g : Geom C). (g.number, g.kind))))

  -- what a consumer wants from the counts of what is seen
  abbrev want_of_seen : Seen → ℕ → ℕ → Counts
  want_of_seen s n g = want_seen (have_seen s) s n g

  -- wants are seen
  want_is_seen : {C : Type 0} (t : Topology C) (c : Consumer)
      → want granted t c ≡ want_of_seen (seen_by_counts t) c.number c.geom
  want_is_seen t c =
      want_given-same granted (have granted t) (have_seen (seen_by_counts t)) t c
      (of_each (λ (y : Provider). have granted t y.number ≡ have_seen (seen_by_counts t) y.number)
      (λ y. have_of_seen t y.number) (providers_of t c.geom))
      ∙ want_given_seen (have_seen (seen_by_counts t)) t c

  -- whether none of the consumers stands in another's way
  abbrev together_seen : Seen → List (ℕ × ℕ × Option ℕ) → Bool
  together_seen s cs =
      list_all (λ a.
      list_all (λ b. (a.0 == b.0)
      || (((want_of_seen s a.0 a.1).w == 0) || ((want_of_seen s b.0 b.1).e == 0))) cs) cs

  -- whether that holds at each provider
  abbrev exclusive_seen : Seen → Bool
  exclusive_seen s = list_all (λ x. together_seen s (filter (λ c. names_number c.2 x.0) s.consumers)) s.providers

  -- whether counts are within the limit
  abbrev limited : Counts → Bool
  limited a = nat_le a.r MAX_ACCESS_COUNT && (nat_le a.w MAX_ACCESS_COUNT && nat_le a.e MAX_ACCESS_COUNT)

  -- that none stands in another's way is seen
  together_is_seen : {C : Type 0} (t : Topology C) (cs : List Consumer)
      → list_all (λ a.
      list_all (λ b. (a.number == b.number) || (((want granted t a).w == 0) || ((want granted t b).e == 0))) cs) cs
      ≡ together_seen (seen_by_counts t) (map (λ c. (c.number, c.geom, c.provider)) cs)
  together_is_seen t cs =
      let s : Seen = seen_by_counts t in
      let see : Consumer → ℕ × ℕ × Option ℕ = λ c. (c.number, c.geom, c.provider) in
      list_all-filter_map
      (λ (a : Consumer).
      list_all (λ b. (a.number == b.number) || (((want granted t a).w == 0) || ((want granted t b).e == 0))) cs)
      (λ (a : ℕ × ℕ × Option ℕ).
      list_all (λ b. (a.0 == b.0) || (((want_of_seen s a.0 a.1).w == 0) || ((want_of_seen s b.0 b.1).e == 0)))
      (map see cs))
      see
      (λ a.
      list_all-filter_map
      (λ (b : Consumer). (a.number == b.number) || (((want granted t a).w == 0) || ((want granted t b).e == 0)))
      (λ (b : ℕ × ℕ × Option ℕ). (a.number == b.0)
      || (((want_of_seen s a.number a.geom).w == 0) || ((want_of_seen s b.0 b.1).e == 0)))
      see
      (λ b.
      ap (λ x. (a.number == b.number) || ((x.w == 0) || ((want granted t b).e == 0))) (want_is_seen t a)
      ∙ ap (λ y. (a.number == b.number) || (((want_of_seen s a.number a.geom).w == 0) || (y.e == 0)))
      (want_is_seen t b))
      cs)
      cs

  -- exclusiveness is seen
  exclusive_is_seen : {C : Type 0} (t : Topology C) → is_exclusive granted t ≡ exclusive_seen (seen_by_counts t)
  exclusive_is_seen t =
      let s : Seen = seen_by_counts t in
      list_all-filter_map
      (λ (x : Provider).
      list_all (λ a.
      list_all (λ b. (a.number == b.number)
      || (((want granted t a).w == 0) || ((want granted t b).e == 0))) (attached_to t x.number))
      (attached_to t x.number))
      (λ (x : ℕ × ℕ). together_seen s (filter (λ c. names_number c.2 x.0) s.consumers))
      (λ x. (x.number, x.geom))
      (λ x.
      together_is_seen t (attached_to t x.number)
      ∙ ap (together_seen s)
      (sym (filter-map (λ (c : ℕ × ℕ × Option ℕ). names_number c.2 x.number)
      (λ (c : Consumer). (c.number, c.geom, c.provider)) t.consumers)))
      t.providers

  -- the limit is seen
  fits_is_seen : {C : Type 0} (t : Topology C)
      → fits_limit granted t ≡ list_all (λ x. limited (have_seen (seen_by_counts t) x.0)) (seen_by_counts t).providers
  fits_is_seen t =
      list_all-filter_map (λ (x : Provider). limited (have granted t x.number))
      (λ (x : ℕ × ℕ). limited (have_seen (seen_by_counts t) x.0))
      (λ x. (x.number, x.geom)) (λ x. ap limited (have_of_seen t x.number)) t.providers

  module _ {C D : Type 0} (t : Topology C) (u : Topology D) (same : seen_by_counts t ≡ seen_by_counts u) where
    seen_exclusive : is_exclusive granted u ≡ is_exclusive granted t
    seen_exclusive = exclusive_is_seen u ∙ sym (ap exclusive_seen same) ∙ sym (exclusive_is_seen t)

    seen_limit : fits_limit granted u ≡ fits_limit granted t
    seen_limit =
        fits_is_seen u
        ∙ sym (ap (λ s. list_all (λ x. limited (have_seen s x.0)) s.providers) same)
        ∙ sym (fits_is_seen t)

    -- what counts see is all that demand depends on
    pub seen_stays : DemandStays granted t granted u AnyConsumer
    seen_stays = record {
      haves = λ p. have_of_seen u p ∙ sym (ap (λ s. have_seen s p) same) ∙ sym (have_of_seen t p);
      wants = λ c any. want_is_seen u c ∙ sym (ap (λ s. want_of_seen s c.number c.geom) same) ∙ sym (want_is_seen t c);
      exclusive = λ e. seen_exclusive ∙ e;
      limit = λ e. seen_limit ∙ e;
    }

-- Changes that counts don't see.

-- a change that isn't seen
pub map-changed : {X Y : Type 0} (see : X → Y) (test : X → Bool) (change : X → X) → ((x : X) → see (change x) ≡ see x)
    → (xs : List X)
    → map see (change_where test change xs) ≡ map see xs
map-changed see test change same [] = refl
map-changed {X = X} {Y = Y} see test change same (x ∷ xs) =
    ap (λ y. y ∷ map see (change_where test change xs)) (one (test x))
    ∙ ap (λ ys. see x ∷ ys) (map-changed see test change same xs)
  where
    one : (b : Bool) → see (if b then change x else x) ≡ see x
    one true = same x
    one false = refl

module _ {C : Type 0} (granted : ℕ → Counts) (t : Topology C) where
  -- an error
  pub unseen_error : (p : ℕ) → DemandStays granted t granted (set_error t p) AnyConsumer
  unseen_error p =
      seen_stays granted t (set_error t p)
      (ap (λ ps. record (seen_by_counts t) { providers = ps })
      (sym (map-changed (λ (x : Provider). (x.number, x.geom)) (λ x. x.number == p)
      (λ x. record x { errored = true }) (λ x. refl) t.providers)))

  -- another media size
  pub unseen_size : (p size : ℕ) → DemandStays granted t granted (set_size t p size) AnyConsumer
  unseen_size p size =
      seen_stays granted t (set_size t p size)
      (ap (λ ps. record (seen_by_counts t) { providers = ps })
      (sym (map-changed (λ (x : Provider). (x.number, x.geom)) (λ x. x.number == p) (λ x. record x { size = size })
      (λ x. refl) t.providers)))

  -- withering
  pub unseen_withering : (g : ℕ) → DemandStays granted t granted (set_withering t g) AnyConsumer
  unseen_withering g =
      seen_stays granted t (set_withering t g)
      (ap (λ gs. record (seen_by_counts t) { geoms = gs })
      (sym (map-changed (λ (x : Geom C). (x.number, x.kind)) (λ x. x.number == g)
      (λ x. record x { withering = true }) (λ x. refl) t.geoms)))

  -- another configuration
  pub unseen_config : (g : ℕ) (config : C) → DemandStays granted t granted (set_config t g config) AnyConsumer
  unseen_config g config =
      seen_stays granted t (set_config t g config)
      (ap (λ gs. record (seen_by_counts t) { geoms = gs })
      (sym (map-changed (λ (x : Geom C). (x.number, x.kind)) (λ x. x.number == g)
      (λ x. record x { config = config }) (λ x. refl) t.geoms)))

  -- one more started request
  pub unseen_started : (g : ℕ) → DemandStays granted t granted (note_started t g) AnyConsumer
  unseen_started g =
      seen_stays granted t (note_started t g)
      (ap (λ gs. record (seen_by_counts t) { geoms = gs })
      (sym (map-changed (λ (x : Geom C). (x.number, x.kind)) (λ x. x.number == g)
      (λ x. record x { started = x.started + 1 }) (λ x. refl) t.geoms)))

  -- marks
  pub unseen_marks : (test : Consumer → Bool) (mark : Bool)
      → DemandStays granted t granted (set_marks t test mark) AnyConsumer
  unseen_marks test mark =
      seen_stays granted t (set_marks t test mark)
      (ap (λ cs. record (seen_by_counts t) { consumers = cs })
      (sym (map-changed (λ (x : Consumer). (x.number, x.geom, x.provider)) test (λ x. record x { spoiled = mark })
      (λ x. refl) t.consumers)))

  -- configurations seen otherwise
  pub unseen_configs : {D : Type 0} (see : C → D) → DemandStays granted t granted (with_configs see t) AnyConsumer
  unseen_configs see =
      seen_stays granted t (with_configs see t)
      (ap (λ gs. record (seen_by_counts t) { geoms = gs })
      (sym (map-map (λ x. (x.number, x.kind)) (λ (x : Geom C). record {
        number = x.number;
        kind = x.kind;
        name = x.name;
        config = see x.config;
        automatic = x.automatic;
        withering = x.withering;
        started = x.started;
      }) t.geoms)))

-- what `little_is_seen` says
pub ruleset little_is_seen = (unseen_error, unseen_size, unseen_withering, unseen_marks, unseen_config, unseen_started)
