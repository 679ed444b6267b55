-- What is made of an accepted sector: a geom above the tasted provider, of which at most so many providers are offered
-- as its class can make.
use Rattle.std.specs.Prelude.{◌≡◌, ℕ, ◌+◌, ◌*◌, ◌==◌, List, [], ◌∷◌, ◌++◌, length, sum_by, Option, Some, IsSome, All, option_and_then, ◌≤◌, max, Bool, ◌-◌, ◌<◌, true, false, not, ◌&&◌, map, replicate, None, Contains, is_some, is_none, slice_get, if◌then◌else◌, ◌/◌, nat_le, nat_lt}
use Rattle.std.specs.List.{AllByRecursion, list_all}
use Rattle.std.specs.Option.{option_map_or, option_flatten}
use Rattle.std.proofs.Common.{refl, sym, ◌∙◌, ap, subst, arith}
use Rattle.std.proofs.lemmas.List.Elements.{recursion_from_All, All-contains, All-weaker}
use Rattle.std.proofs.lemmas.List.Sums.{sum_by-cons, sum_by_push}
use Rattle.std.proofs.lemmas.Bool.{and_parts, eqb-true, not-false, ltb-true}
use Rattle.std.proofs.lemmas.List.{length-replicate, length-append, length-map}
use Rattle.geo_base.specs.declared.limits.TheConstants.{UNTASTED_RANK, MAX_COMPONENTS, MAX_LINKS}
use Rattle.geo_base.specs.declared.kind.Kind.{Kind}
use Rattle.geo_base.proofs.FindLists.{found-still}
use Rattle.geo_base.proofs.PlaceLists.{free_at}
use Rattle.geo_base.specs.declared.kind.Kind.TheVariants as kinds
use Rattle.geo_base.specs.declared.decline.DeclineCause.{DeclineCause}
use Rattle.geo_base.specs.declared.decline.DeclineCause.TheVariants as causes
use Rattle.geo_model.specs.declared.step.Event.{Event}
use Rattle.geo_model.specs.declared.step.Event.TheVariants as events
use Rattle.geo_model.specs.Topology.{Topology, Geom, Provider, geom_at, provider_at, Consumer, providers_of, add_geom, add_consumer, set_config}
use Rattle.geo_model.specs.Graph.{IsInOrder, GeomsLive, OfferersLive, PartsLive}
use Rattle.geo_model.specs.Rank.{rank, Ranked}
use Rattle.geo_model.specs.Events.{QueuedTopology, provider_of_event, offer}
use Rattle.geo_model.specs.World.{World, Config, Label, Concat, Stripe, Mbr, Ebr, Taste}
use Rattle.geo_model.specs.WorldEvents.{with_queued, queued_of}
use Rattle.geo_model.specs.Acceptance.{NewSlice, with_geom_over, if_free, with_slices, accept_slices, with_label, accept_named, is_same_assembly, standing_geom, places_of, fill_place, joined_size, is_size, finish, with_place, join_place, can_join, Member, join_at, verdict_of, is_other_size, label_verdict, new_slices, new_parts, concat_member, stripe_member, empty_concat, empty_stripe, accept}
use Rattle.geo_model.specs.Order.{taste_weight, rank_of_provider, event_weight, can_make}
use Rattle.geo_model.specs.Words.{same_name, first_error, unless}
use Rattle.geo_model.specs.Steady.{WaitsForPlaces}
use Rattle.geo_model.specs.Fitting.{Firm}
use Rattle.geo_model.proofs.DemandLemmas.{find_passes}
use Rattle.geo_model.proofs.RefusalLemmas.{none_refused, none_behind}
use Rattle.geo_model.specs.declared.class.ConcatRecord.{ConcatRecord}
use Rattle.geo_model.specs.declared.class.EbrPart.{EbrPart}
use Rattle.geo_model.specs.declared.class.Facts.{Facts}
use Rattle.geo_model.specs.declared.class.LabelRecord.{LabelRecord}
use Rattle.geo_model.specs.declared.class.MbrTable.{MbrTable}
use Rattle.geo_model.specs.declared.class.Shape.{Shape}
use Rattle.geo_model.specs.declared.class.Shape.TheVariants.{Slices, Logical, Named, Joined, Striped}
use Rattle.geo_model.specs.declared.class.Slice.{Slice}
use Rattle.geo_model.specs.declared.class.StripeRecord.{StripeRecord}
use Rattle.geo_model.specs.declared.class.Verdict.TheVariants.{Decline, More, Accept}
use Rattle.geo_model.specs.Names.{slice_name, logical_name, label_name}
use Rattle.geo_model.specs.Records.{u16_at, u32_at, record_name, label_magic, head_tests, place_test, size_test, concat_magic, concat_tests, stripe_magic, stripe_tests, kept_entries, mbr_tests}
use Rattle.geo_model.specs.Chain.{Chain, LinkRead, with_link, link_tests, table_of, chain_verdict, leads_on}
use Rattle.geo_model.specs.Tasting.{facts_of}
use Rattle.geo_model.specs.Sound.{ChainHolds, class_asked}
use Rattle.geo_laws_graph.proofs.Found.{added-provider, added-geom, added-consumer, config-found}
use Rattle.geo_laws_graph.proofs.Living.{found-before, add_geom-geoms, add_consumer-geoms, map_there, sound-order, steady-parts}
use Rattle.geo_laws_graph.proofs.Members.{has, find-Contains}
use Rattle.geo_laws_graph.proofs.Numbered.{number_found}
use Rattle.geo_laws_graph.proofs.RankChanges.{adding-stay, plain-stay}
use Rattle.geo_laws_graph.proofs.Lists.{changed, find-changed, found_itself}
use Rattle.geo_laws_graph.specs.RankLaws.{RanksStay, AllRanksStay}
use Rattle.geo_laws_graph.proofs.Opens.{open-rises, offers-nothing}
use Rattle.geo_laws_life.proofs.Found.{at-found}
use Rattle.geo_laws_making.proofs.Offered.{offered, offered-living}
use Rattle.geo_laws_making.proofs.Over.{false_true}
use Rattle.geo_laws_making.proofs.MadeFree.{free-made}
use Rattle.geo_laws_making.specs.AcceptLaws.{IsAccepted}
use Rattle.geo_laws_making.proofs.Accepted.{found, tasting}
use Rattle.geo_laws_making.proofs.NewSlices.{new_of, new_few}
use Rattle.geo_laws_rest.proofs.Lowered.{rank_stays, KeepsRanks, geoms_number, rank_same, elsewhere}

-- the rank of a provider whose geom is found
pub at_rank : (w : World) (p : ℕ) (x : Provider) (g : Geom Config) → provider_at w.topology p ≡ Some x
    → geom_at w.topology x.geom ≡ Some g → rank_of_provider w p ≡ rank w.topology x.geom
at_rank w p x g found at =
    ap (λ (o : Option Provider). option_map_or (λ (h : Geom Config). rank w.topology h.number)
    (option_and_then (λ (y : Provider). geom_at w.topology y.geom) o) UNTASTED_RANK) found
    ∙ ap (λ (o : Option (Geom Config)). option_map_or (λ (h : Geom Config). rank w.topology h.number) o UNTASTED_RANK)
    at
    ∙ ap (rank w.topology) (number_found (λ (h : Geom Config). h.number) w.topology.geoms x.geom g at)

-- the provider of an event lives
abbrev pub IsLiving : Topology Config → Event → Type 0
IsLiving t e = IsSome (provider_at t (provider_of_event e))

-- the ranks of providers that live are the same
abbrev pub KeepsLiving : World → World → Type 0
KeepsLiving v w = (p : ℕ) → IsSome (provider_at w.topology p) → rank_of_provider v p ≡ rank_of_provider w p

-- then their events cost the same
living_weight : (v w : World) → KeepsLiving v w → (e : Event) → IsLiving w.topology e
    → event_weight v e ≡ event_weight w e
living_weight v w same (events.NewProvider p) lives = ap taste_weight (same p lives)
living_weight v w same (events.Resize p) lives = ap (λ (r : ℕ). 1 + taste_weight r) (same p lives)
living_weight v w same _ lives = refl

-- so for a queue
pub living_weights : (v w : World) → KeepsLiving v w → (es : List Event) → AllByRecursion (IsLiving w.topology) es
    → sum_by (event_weight v) es ≡ sum_by (event_weight w) es
living_weights v w same [] lives = refl
living_weights v w same (e ∷ es) lives =
    omega (
      arith,
      sum_by-cons (event_weight v) e es,
      sum_by-cons (event_weight w) e es,
      living_weight v w same e lives.0,
      living_weights v w same es lives.1,
    )

-- a graph in which providers of a geom can be offered
pub record CanOfferAt (t : Topology Config) (n : ℕ) : Type 0 where
  pub ranked : Ranked t
  pub live : GeomsLive t
  pub order : IsInOrder t
  pub there : IsSome (geom_at t n)

module _ (k : World) (n sector : ℕ) where
  -- the world with a graph and a queue
  abbrev in_world : QueuedTopology Config → World
  in_world q = with_queued k q

  -- what the queue may cost
  abbrev pub costs : QueuedTopology Config → ℕ
  costs q = sum_by (event_weight (in_world q)) q.events

  module _ (q : QueuedTopology Config) (x : NewSlice) (can : CanOfferAt q.topology n) where
    -- the graph and the queue with one provider more
    abbrev more : QueuedTopology Config
    more = offer q n x.name x.size sector

    -- the ranks stay
    same_ranks : (g : ℕ) → rank more.topology g ≡ rank q.topology g
    same_ranks = (adding-stay.provider q.topology n x.name x.size sector can.ranked can.live).same

    -- more can be offered
    can_still : CanOfferAt more.topology n
    can_still = record {
      ranked = (adding-stay.provider q.topology n x.name x.size sector can.ranked can.live).ranked;
      live = can.live;
      order = added-provider.order q.topology n x.name x.size sector can.order;
      there = can.there;
    }

    -- the rank of a provider that lived stays
    living_stays : KeepsLiving (in_world more) (in_world q)
    living_stays p lives =
        let y = has (provider_at q.topology p) lives in
        let still : provider_at more.topology p ≡ Some y.item =
        found-before (λ (z : Provider). z.number == p) q.topology.providers _ y.item y.is in
        rank_stays (in_world more) (in_world q) p
        (ap (option_and_then (λ (z : Provider). geom_at q.topology z.geom)) (still ∙ sym y.is))
        (λ g at. same_ranks g.number)

    -- the new one has the rank of the geom
    new_rank : rank_of_provider (in_world more) q.topology.next_provider ≡ rank q.topology n
    new_rank =
        let g = has (geom_at q.topology n) can.there in
        at_rank (in_world more) q.topology.next_provider _ g.item
        (added-provider.new q.topology n x.name x.size sector can.order) g.is
        ∙ same_ranks n

    -- so its offer costs what that says
    one_cost : AllByRecursion (IsLiving q.topology) q.events → costs more ≡ costs q + taste_weight (rank q.topology n)
    one_cost lives =
        let push : sum_by (event_weight (in_world more)) (q.events ++ events.NewProvider q.topology.next_provider ∷ [])
        ≡ sum_by (event_weight (in_world more)) q.events
        + taste_weight (rank_of_provider (in_world more) q.topology.next_provider) =
        sum_by_push (event_weight (in_world more)) q.events (events.NewProvider q.topology.next_provider) in
        let old = living_weights (in_world more) (in_world q) living_stays q.events lives in
        let new : taste_weight (rank_of_provider (in_world more) q.topology.next_provider)
        ≡ taste_weight (rank q.topology n) = ap taste_weight new_rank in
        omega (arith, push, old, new)

    -- and the events are of providers that live
    lives_still : All (IsLiving q.topology) q.events → All (IsLiving more.topology) more.events
    lives_still lives = offered-living n sector (x ∷ []) q can.order lives

  -- where providers of a geom are offered, each costs so much, and providers that lived keep their ranks
  pub record Offering (q r : QueuedTopology Config) (number : ℕ) : Type 0 where
    pub cost : costs r ≡ costs q + number * taste_weight (rank q.topology n)
    pub living : KeepsLiving (in_world r) (in_world q)

  -- so for any of them
  pub offers_cost : (xs : List NewSlice) (q : QueuedTopology Config) → CanOfferAt q.topology n
      → All (IsLiving q.topology) q.events → Offering q (offered n sector q xs) (length xs)
  offers_cost [] q can lives = record { cost = omega arith; living = λ p there. refl }
  offers_cost (x ∷ xs) q can lives =
      let first = one_cost q x can (recursion_from_All (IsLiving q.topology) q.events lives) in
      let rest = offers_cost xs (more q x can) (can_still q x can) (lives_still q x can lives) in
      let weight : taste_weight (rank (more q x can).topology n) ≡ taste_weight (rank q.topology n) =
      ap taste_weight (same_ranks q x can n) in
      let cost : costs (offered n sector (more q x can) xs)
      ≡ costs (more q x can) + length xs * taste_weight (rank q.topology n) =
      subst (λ (m : ℕ). costs (offered n sector (more q x can) xs) ≡ costs (more q x can) + length xs * m) weight
      rest.cost in
      record {
        cost = omega (arith, first, cost);
        living = λ p there.
            rest.living p (found-still (λ (z : Provider). z.number == p) q.topology.providers _ there)
            ∙ living_stays q x can p there;
      }

-- A geom over a tasted provider, a new one or a standing one without providers: it is higher than the provider's
-- geom, and no other rank that counts for tasting changes.

-- the world with another graph
abbrev pub with_graph : World → Topology Config → World
with_graph w t = record w { topology = t }

-- a graph with a geom that is higher than a rank, in which providers of it can be offered; what lived keeps its rank
pub record IsRaised (t u : Topology Config) (k : World) (n r : ℕ) : Type 0 where
  pub can : CanOfferAt u n
  pub high : r + 1 ≤ rank u n
  pub kept : u.providers ≡ t.providers
  pub living : KeepsLiving (with_graph k u) (with_graph k t)

-- A geom without providers that gets one consumer more

module _ (k : World) (t : Topology Config) (n : ℕ) (p : Provider) (can : CanOfferAt t n)
    (none : providers_of t n ≡ []) (found : provider_at t p.number ≡ Some p) where
  -- the graph with the consumer
  abbrev u : Topology Config
  u = add_consumer t n (Some p.number)

  -- the geom is above the provider's
  joined-raised : IsRaised t u k n (rank t p.geom)
  joined-raised =
      let rises = open-rises t n p.number p can.ranked can.live can.there none found in
      let top : rank u n ≡ max (rank t n) (1 + rank t p.geom) = rises.1 in
      record {
        can = record {
          ranked = rises.0.ranked;
          live = add_consumer-geoms t n (Some p.number) can.there can.live;
          order = added-consumer.order t n (Some p.number) can.order;
          there = can.there;
        };
        high = omega arith;
        kept = refl;
        living = λ q there. elsewhere (with_graph k u) (with_graph k t) n none (λ m. refl) rises.0.same q;
      }

  -- also with another configuration
  module _ (config : Config) where
    -- the graph with it
    abbrev filled : Topology Config
    filled = set_config u n config

    -- geoms live on
    filled_there : (m : ℕ) → IsSome (geom_at u m) → IsSome (geom_at filled m)
    filled_there m there =
        subst (λ (o : Option (Geom Config)). IsSome o)
        (sym (find-changed (λ (x : Geom Config). x.number == n) (λ x. record x { config = config })
        (λ (x : Geom Config). x.number == m) (λ x e. refl) u.geoms))
        (map_there (changed (λ (x : Geom Config). x.number == n) (λ x. record x { config = config }))
        (geom_at u m) there)

    -- ranks stay
    config_ranks : AllRanksStay u filled
    config_ranks = plain-stay.config u n config

    -- and so the geom is above the provider's
    filled-raised : IsRaised t filled k n (rank t p.geom)
    filled-raised =
        let joined = joined-raised in
        let high : rank filled n ≡ rank u n = config_ranks.same n in
        let keeps : KeepsRanks u filled = record {
          number = geoms_number u (λ (x : Geom Config). x.number == n) (λ x. record x { config = config }) (λ x. refl);
          rank = config_ranks.same;
        } in
        record {
          can = record {
            ranked = config_ranks.ranked joined.can.ranked;
            live = All-weaker (λ (c : Consumer). IsSome (geom_at u c.geom))
                (λ (c : Consumer). IsSome (geom_at filled c.geom)) (λ c. filled_there c.geom) u.consumers
                joined.can.live;
            order = config-found.order u n config joined.can.order;
            there = filled_there n joined.can.there;
          };
          high = omega (arith, joined.high, high);
          kept = refl;
          living = λ q there. rank_same (with_graph k filled) (with_graph k u) keeps q ∙ joined.living q there;
        }

-- A new geom

module _ (k : World) (t : Topology Config) (kind : Kind) (name : List ℕ) (config : Config) (automatic : Bool)
    (ranked : Ranked t) (live : GeomsLive t) (offerers : OfferersLive t) (order : IsInOrder t) where
  -- the graph with it
  abbrev pub grown : Topology Config
  grown = add_geom t kind name config automatic

  -- ranks stay
  grown_ranks : RanksStay t grown
  grown_ranks = adding-stay.geom t kind name config automatic ranked live

  -- providers of it can be offered
  grown_can : CanOfferAt grown t.next_geom
  grown_can = record {
    ranked = grown_ranks.ranked;
    live = add_geom-geoms t kind name config automatic live;
    order = added-geom.order t kind name config automatic order;
    there = subst (λ (o : Option (Geom Config)). IsSome o)
        (sym (added-geom.new t kind name config automatic order)) refl;
  }

  -- it has none
  grown_none : providers_of grown t.next_geom ≡ []
  grown_none = offers-nothing t order offerers

  -- the rank of what lives stays
  grown_living : KeepsLiving (with_graph k grown) (with_graph k t)
  grown_living p there =
      let x = has (provider_at t p) there in
      let lives : IsSome (geom_at t x.item.geom) =
      All-contains (λ (y : Provider). IsSome (geom_at t y.geom)) t.providers x.item offerers
      (find-Contains (λ (y : Provider). y.number == p) t.providers x.item x.is) in
      let g = has (geom_at t x.item.geom) lives in
      let still : geom_at grown x.item.geom ≡ geom_at t x.item.geom =
      found-before (λ (y : Geom Config). y.number == x.item.geom) t.geoms _ g.item g.is ∙ sym g.is in
      rank_stays (with_graph k grown) (with_graph k t) p
      (ap (option_and_then (λ (y : Provider). geom_at grown y.geom)) x.is ∙ still
      ∙ sym (ap (option_and_then (λ (y : Provider). geom_at t y.geom)) x.is))
      (λ g at. grown_ranks.same g.number)

  -- where a graph is raised from it, it is raised from the one before
  raised-on : (u : Topology Config) (n g : ℕ) → IsRaised grown u k n (rank grown g) → IsRaised t u k n (rank t g)
  raised-on u n g raised =
      let same : rank grown g ≡ rank t g = grown_ranks.same g in
      let high = raised.high in
      record {
        can = raised.can;
        high = omega (arith, high, same);
        kept = raised.kept;
        living = λ p there. raised.living p there ∙ grown_living p there;
      }

-- What is made of an accepted verdict: a geom above the tasted provider's, of which at most so many providers are
-- offered as the class can make.

-- what is made: a geom that is higher than a rank, of which at most so many providers are offered
pub record Makes (k : World) (t : Topology Config) (made : QueuedTopology Config) (r number : ℕ) : Type 0 where
  pub graph : Topology Config
  pub geom : ℕ
  pub sector : ℕ
  pub slices : List NewSlice
  pub raised : IsRaised t graph k geom r
  pub few : length slices ≤ number
  pub is : offered geom sector (record { topology = graph; events = k.events }) slices ≡ made

-- Places

-- what a provider that joins a geom without providers makes
module _ (k : World) (t : Topology Config) (n : ℕ) (p : Provider) (can : CanOfferAt t n)
    (none : providers_of t n ≡ []) (there : provider_at t p.number ≡ Some p) (name : List ℕ)
    (made : QueuedTopology Config) where
  -- the graph and the queue
  abbrev before : QueuedTopology Config
  before = record { topology = t; events = k.events }

  -- the rank below
  abbrev low : ℕ
  low = rank t p.geom

  module _ (filled : Config) where
    -- with the place filled
    abbrev taken : QueuedTopology Config
    taken = with_place before p n filled

    -- the geom is above
    above : IsRaised t taken.topology k n low
    above = filled-raised k t n p can none there filled

    -- finished, by whether the size is one
    finished_by : (b : Bool)
        → (if b
        then if_free taken.topology (name ∷ []) (offer taken n name (joined_size filled) p.sector)
        else None) ≡ Some made
        → Makes k t made low 1
    finished_by false e = absurd (let no : ⊥ = cc in no)
    finished_by true e =
        let free = free-made taken.topology (name ∷ []) (offer taken n name (joined_size filled) p.sector) made e in
        record {
          graph = taken.topology;
          geom = n;
          sector = p.sector;
          slices = record { name = name; size = joined_size filled } ∷ [];
          raised = above;
          few = omega arith;
          is = free.is;
        }

    -- by whether the places are full
    joined_by : (b : Bool) → (if b then finish taken n filled name p.sector else Some taken) ≡ Some made
        → Makes k t made low 1
    joined_by true e = finished_by (is_size (joined_size filled)) e
    joined_by false e =
        let is : taken ≡ made = cc in
        record {
          graph = taken.topology;
          geom = n;
          sector = p.sector;
          slices = [];
          raised = above;
          few = omega arith;
          is = is;
        }

  -- so a provider that takes a place
  joined-makes : (config : Config) (place : ℕ) → join_place before p n config place name ≡ Some made
      → Makes k t made low 1
  joined-makes config place e =
      joined_by (fill_place config place t.next_consumer (p.size - p.sector))
      (list_all is_some (places_of (fill_place config place t.next_consumer (p.size - p.sector)))) e

-- a standing configuration of the same concat has as many places
same_concat : (config : Config) (id count : ℕ)
    → is_same_assembly config (Concat (Some id) (replicate count None) (replicate count 0)) ≡ true
    → length (places_of config) ≡ count
same_concat (Concat (Some a) places sizes) id count e =
    let parts = and_parts (a == id) (length places == length (replicate {A = Option ℕ} count None)) e in
    eqb-true (length places) (length (replicate {A = Option ℕ} count None)) parts.1
    ∙ length-replicate {A = Option ℕ} count None
same_concat (Stripe (Some a) s places sizes) id count e = false_true e
same_concat _ id count e = false_true e

-- and so of a stripe
same_stripe : (config : Config) (id stripe count : ℕ)
    → is_same_assembly config (Stripe (Some id) stripe (replicate count None) (replicate count 0)) ≡ true
    → length (places_of config) ≡ count
same_stripe (Stripe (Some a) s places sizes) id stripe count e =
    let parts =
    and_parts (a == id) ((s == stripe) && (length places == length (replicate {A = Option ℕ} count None))) e in
    let rest = and_parts (s == stripe) (length places == length (replicate {A = Option ℕ} count None)) parts.1 in
    eqb-true (length places) (length (replicate {A = Option ℕ} count None)) rest.1
    ∙ length-replicate {A = Option ℕ} count None
same_stripe (Concat (Some a) places sizes) id stripe count e = false_true e
same_stripe _ id stripe count e = false_true e

-- What each class makes

module _ (w : World) (firm : Firm w) (p : Provider) (there : provider_at w.topology p.number ≡ Some p)
    (made : QueuedTopology Config) where
  -- the graph
  abbrev t : Topology Config
  t = w.topology

  -- it is in order
  order : IsInOrder t
  order = sound-order w firm.graph.numbers

  -- its parts live
  live : PartsLive t
  live = steady-parts t firm.graph.parts firm.graph.attached

  -- the rank of the provider's geom
  abbrev below : ℕ
  below = rank t p.geom

  -- a geom over the provider is above its geom
  over-raised : (kind : Kind) (config : Config)
      → IsRaised t (with_geom_over (queued_of w) p kind config).topology w t.next_geom below
  over-raised kind config =
      let u : Topology Config =
      grown w t kind p.name config true firm.graph.ranks.ranked live.geoms live.offerers order in
      raised-on w t kind p.name config true firm.graph.ranks.ranked live.geoms live.offerers order
      (with_geom_over (queued_of w) p kind config).topology t.next_geom p.geom
      (joined-raised w u t.next_geom p
      (grown_can w t kind p.name config true firm.graph.ranks.ranked live.geoms live.offerers order)
      (grown_none w t kind p.name config true firm.graph.ranks.ranked live.geoms live.offerers order) there)

  -- with a provider for each slice
  slices-make : (kind : Kind) (config : Config) (slices : List NewSlice) (number : ℕ) → length slices ≤ number
      → accept_slices (queued_of w) p kind config slices ≡ Some made → Makes w t made below number
  slices-make kind config slices number few e =
      let free = free-made t (map (λ (x : NewSlice). x.name) slices)
      (with_slices (queued_of w) p kind config slices) made e in
      record {
        graph = (with_geom_over (queued_of w) p kind config).topology;
        geom = t.next_geom;
        sector = 512;
        slices = slices;
        raised = over-raised kind config;
        few = few;
        is = free.is;
      }

  -- a label
  label-makes : (name : List ℕ) → accept_named (queued_of w) p name ≡ Some made → Makes w t made below 1
  label-makes name e =
      let free = free-made t (name ∷ []) (with_label (queued_of w) p name) made e in
      record {
        graph = (with_geom_over (queued_of w) p kinds.Label (Label (Some t.next_consumer))).topology;
        geom = t.next_geom;
        sector = p.sector;
        slices = record { name = name; size = p.size - p.sector } ∷ [];
        raised = over-raised kinds.Label (Label (Some t.next_consumer));
        few = omega arith;
        is = free.is;
      }

  -- Assemblies

  module _ (m : Member) (same : (g : Geom Config) → is_same_assembly g.config m.empty ≡ true
      → m.place < length (places_of g.config)) where
    -- a new geom
    new-makes : join_at (queued_of w) p m None ≡ Some made → Makes w t made below 1
    new-makes e =
        let u : Topology Config =
        grown w t m.kind m.geom_name m.empty true firm.graph.ranks.ranked live.geoms live.offerers order in
        let joined = joined-makes w u t.next_geom p
        (grown_can w t m.kind m.geom_name m.empty true firm.graph.ranks.ranked live.geoms live.offerers order)
        (grown_none w t m.kind m.geom_name m.empty true firm.graph.ranks.ranked live.geoms live.offerers order)
        there m.name made m.empty m.place e in
        record {
          graph = joined.graph;
          geom = joined.geom;
          sector = joined.sector;
          slices = joined.slices;
          raised = raised-on w t m.kind m.geom_name m.empty true firm.graph.ranks.ranked live.geoms live.offerers order
              joined.graph joined.geom p.geom joined.raised;
          few = joined.few;
          is = joined.is;
        }

    -- a standing one, by whether the place can be taken
    standing-by : (g : Geom Config) → Contains t.geoms g → is_same_assembly g.config m.empty ≡ true
        → (b : Bool) → can_join t p g m.place ≡ b
        → (if b then join_place (queued_of w) p g.number g.config m.place m.name else None) ≡ Some made
        → Makes w t made below 1
    standing-by g here is false joins e = absurd (let no : ⊥ = cc in no)
    standing-by g here is true joins e =
        let parts = and_parts (is_none (option_flatten (slice_get (places_of g.config) m.place))) _ joins in
        let free = free_at (places_of g.config) m.place (same g is) parts.0 in
        let stands : geom_at t g.number ≡ Some g =
        found_itself (λ (z : Geom Config). z.number) t.next_geom t.geoms g order.geoms here in
        joined-makes w t g.number p
        (record {
          ranked = firm.graph.ranks.ranked;
          live = live.geoms;
          order = order;
          there = subst (λ (o : Option (Geom Config)). IsSome o) (sym stands) refl;
        })
        (All-contains (WaitsForPlaces t) t.geoms g firm.graph.partial here free)
        there m.name made g.config m.place e

    -- by whether one stands
    member-makes : (o : Option (Geom Config)) → standing_geom t m.geom_name m.empty ≡ o
        → join_at (queued_of w) p m o ≡ Some made → Makes w t made below 1
    member-makes None stands e = new-makes e
    member-makes (Some g) stands e =
        let test : Geom Config → Bool = λ x. x.automatic && (not x.withering && (same_name x.name m.geom_name
        && is_same_assembly x.config m.empty)) in
        let passes = find_passes test t.geoms g stands in
        let first = and_parts g.automatic (not g.withering && (same_name g.name m.geom_name
        && is_same_assembly g.config m.empty)) passes in
        let second =
        and_parts (not g.withering) (same_name g.name m.geom_name && is_same_assembly g.config m.empty) first.1 in
        let third = and_parts (same_name g.name m.geom_name) (is_same_assembly g.config m.empty) second.1 in
        standing-by g (find-Contains test t.geoms g stands) third.1 (can_join t p g m.place) refl e

-- What each class makes of the sector that it accepts is at most what the class can make.

-- Tables

-- nothing is against the record that is accepted, and it is the one that was read
record IsRead {A : Type 0} (make : A → Shape) (o : Option DeclineCause) (x : A) (shape : Shape) : Type 0 where
  none : o ≡ None
  is : make x ≡ shape

-- so by what is against it
read_shape : {A : Type 0} (make : A → Shape) (o : Option DeclineCause) (x : A) (shape : Shape)
    → verdict_of make (unless o x) ≡ Accept shape → IsRead make o x shape
read_shape make None x shape e = record { none = refl; is = cc }
read_shape make (Some cause) x shape e = absurd (let no : ⊥ = cc in no)

-- that of a chain is the one of its links
chain_shape : (c : Chain) (bytes : List ℕ) (shape : Shape) (b : Bool)
    → (if b then More c.next else Accept (Logical (table_of c.links))) ≡ Accept shape
    → Logical (table_of c.links) ≡ shape
chain_shape c bytes shape true e = absurd (let no : ⊥ = cc in no)
chain_shape c bytes shape false e = cc

-- by what is against it
links_shape : (c : Chain) (bytes : List ℕ) (shape : Shape) (o : Option DeclineCause)
    → chain_verdict c bytes o ≡ Accept shape → Logical (table_of c.links) ≡ shape
links_shape c bytes shape None e = chain_shape c bytes shape (leads_on bytes) e
links_shape c bytes shape (Some cause) e = absurd (let no : ⊥ = cc in no)

-- so there are at most as many as there are places
few_of : {X : Type 0} (name : ℕ → List ℕ) (count : X → ℕ) (xs : List (Option X)) (n : ℕ) → length xs ≡ n
    → length (new_of name count 0 xs) ≤ n
few_of name count xs n long = let few = new_few name count 0 xs in omega (arith, few, long)

-- a chain of at most MAX_LINKS links has MAX_LINKS places
parts_number : (links : List LinkRead) → length links ≤ MAX_LINKS → length (table_of links).parts ≡ MAX_LINKS
parts_number links few =
    let all : length (map (λ (l : LinkRead). l.part) links ++ replicate (MAX_LINKS - length links) None)
    ≡ length (map (λ (l : LinkRead). l.part) links)
    + length (replicate {A = Option EbrPart} (MAX_LINKS - length links) None) =
    length-append (map (λ (l : LinkRead). l.part) links) (replicate (MAX_LINKS - length links) None) in
    let first : length (map (λ (l : LinkRead). l.part) links) ≡ length links =
    length-map links (λ (l : LinkRead). l.part) in
    let rest : length (replicate {A = Option EbrPart} (MAX_LINKS - length links) None) ≡ MAX_LINKS - length links =
    length-replicate {A = Option EbrPart} (MAX_LINKS - length links) None in
    all
    ∙ (let sum : length (map (λ (l : LinkRead). l.part) links)
    + length (replicate {A = Option EbrPart} (MAX_LINKS - length links) None)
    ≡ MAX_LINKS = omega (arith, first, rest, few) in sum)

-- Labels

-- what is accepted is a label
record IsLabel (shape : Shape) : Type 0 where
  found : LabelRecord
  is : Named found ≡ shape

-- by whether it says another size
label_by : (x : LabelRecord) (shape : Shape) (b : Bool)
    → (if b then Decline causes.Media else Accept (Named x)) ≡ Accept shape → IsLabel shape
label_by x shape true e = absurd (let no : ⊥ = cc in no)
label_by x shape false e = record { found = x; is = cc }

-- so it is
label_shape : (f : Facts) (o : Option DeclineCause) (x : LabelRecord) (shape : Shape)
    → label_verdict f (unless o x) ≡ Accept shape → IsLabel shape
label_shape f None x shape e = label_by x shape (is_other_size x.size (f.sectors * f.sector)) e
label_shape f (Some cause) x shape e = absurd (let no : ⊥ = cc in no)

-- Records of assemblies

-- a place that isn't declined is below the count
place_inside : (place count : ℕ) → (place_test place count).0 ≡ false → place < count
place_inside place count e =
    let a = and_parts (nat_le 1 count) (nat_le count MAX_COMPONENTS && nat_lt place count)
    (not-false (nat_le 1 count && (nat_le count MAX_COMPONENTS && nat_lt place count)) e) in
    ltb-true place count (and_parts (nat_le count MAX_COMPONENTS) (nat_lt place count) a.1).1

-- so that of a record of an assembly, whatever else is tested
record_inside : (magic bytes : List ℕ) (others : List (Bool × DeclineCause))
    → first_error (head_tests magic 1 bytes ++ place_test (u16_at bytes 40) (u16_at bytes 42) ∷ others) ≡ None
    → u16_at bytes 40 < u16_at bytes 42
record_inside magic bytes others none =
    let test : Bool × DeclineCause = place_test (u16_at bytes 40) (u16_at bytes 42) in
    place_inside (u16_at bytes 40) (u16_at bytes 42)
    (none_refused test.0 causes.Place others (none_behind (head_tests magic 1 bytes) (test ∷ others) none)).0

-- Each class

module _ (w : World) (firm : Firm w) (s : Taste) (p : Provider) (bytes : List ℕ) (shape : Shape)
    (made : QueuedTopology Config) where
  -- the facts of the provider
  abbrev f : Facts
  f = facts_of w.topology p

  -- the number of sectors
  abbrev n : ℕ
  n = p.size / p.sector

  -- what is made is at most what the class can make
  abbrev Few : Kind → Type 0
  Few kind = Makes w w.topology made (rank w.topology p.geom) (can_make kind)

  -- slices
  mbr-makes : IsAccepted w s p kinds.Mbr bytes shape made → Few kinds.Mbr
  mbr-makes accepted =
      let there = found w s p kinds.Mbr bytes shape made firm accepted in
      let x : MbrTable = record { slices = kept_entries bytes n } in
      let is = (read_shape Slices (first_error (mbr_tests bytes n)) x shape accepted.verdict).is in
      let made_is : accept (queued_of w) p (Slices x) ≡ Some made =
      subst (λ (z : Shape). accept (queued_of w) p z ≡ Some made) (sym is) accepted.makes in
      slices-make w firm p there made kinds.Mbr (Mbr (Some w.topology.next_consumer) (kept_entries bytes n))
      (new_slices p.name (kept_entries bytes n)) 4
      (few_of (slice_name p.name) (λ (y : Slice). y.count) (kept_entries bytes n) 4 refl) made_is

  -- logical partitions
  ebr-makes : IsAccepted w s p kinds.Ebr bytes shape made → Few kinds.Ebr
  ebr-makes accepted =
      let there = found w s p kinds.Ebr bytes shape made firm accepted in
      let chain : ChainHolds n s.asked s.reads s.chain =
      at-found (provider_at w.topology s.provider) (λ x. ChainHolds (x.size / x.sector) s.asked s.reads s.chain) p
      accepted.found
      ((tasting w s p kinds.Ebr bytes shape made firm accepted).chain (ap class_asked accepted.asked)) in
      let c : Chain = with_link n s.chain bytes in
      let is = links_shape c bytes shape (first_error (link_tests n c bytes)) accepted.verdict in
      let made_is : accept (queued_of w) p (Logical (table_of c.links)) ≡ Some made =
      subst (λ (z : Shape). accept (queued_of w) p z ≡ Some made) (sym is) accepted.makes in
      let was : length s.chain.links < MAX_LINKS = chain.few in
      let more : length c.links ≡ length s.chain.links + 1 = length-append s.chain.links _ in
      let number : length (table_of c.links).parts ≡ MAX_LINKS = parts_number c.links (omega (arith, was, more)) in
      slices-make w firm p there made kinds.Ebr (Ebr (Some w.topology.next_consumer) (table_of c.links).parts)
      (new_parts p.name (table_of c.links).parts) MAX_LINKS
      (few_of (logical_name p.name) (λ (y : EbrPart). y.count) (table_of c.links).parts MAX_LINKS number) made_is

  -- a label
  named-makes : IsAccepted w s p kinds.Label bytes shape made → Few kinds.Label
  named-makes accepted =
      let there = found w s p kinds.Label bytes shape made firm accepted in
      let o = label_shape f (first_error (head_tests label_magic 2 bytes)) _ shape accepted.verdict in
      let made_is : accept (queued_of w) p (Named o.found) ≡ Some made =
      subst (λ (z : Shape). accept (queued_of w) p z ≡ Some made) (sym o.is) accepted.makes in
      label-makes w firm p there made (label_name o.found.name) made_is

  -- a place of a concat
  concat-makes : IsAccepted w s p kinds.Concat bytes shape made → Few kinds.Concat
  concat-makes accepted =
      let there = found w s p kinds.Concat bytes shape made firm accepted in
      let x : ConcatRecord = record {
        name = record_name bytes;
        id = u32_at bytes 36;
        place = u16_at bytes 40;
        count = u16_at bytes 42;
      } in
      let o = read_shape Joined (first_error (concat_tests bytes)) x shape accepted.verdict in
      let made_is : accept (queued_of w) p (Joined x) ≡ Some made =
      subst (λ (z : Shape). accept (queued_of w) p z ≡ Some made) (sym o.is) accepted.makes in
      let inside : x.place < x.count = record_inside concat_magic bytes [] o.none in
      member-makes w firm p there made (concat_member x)
      (λ g same.
      subst (λ (m : ℕ). x.place < m) (sym (same_concat g.config x.id x.count same)) inside)
      (standing_geom w.topology x.name (empty_concat x)) refl made_is

  -- a place of a stripe
  stripe-makes : IsAccepted w s p kinds.Stripe bytes shape made → Few kinds.Stripe
  stripe-makes accepted =
      let there = found w s p kinds.Stripe bytes shape made firm accepted in
      let x : StripeRecord = record {
        name = record_name bytes;
        id = u32_at bytes 36;
        place = u16_at bytes 40;
        count = u16_at bytes 42;
        stripe = u32_at bytes 44;
      } in
      let o = read_shape Striped (first_error (stripe_tests bytes)) x shape accepted.verdict in
      let made_is : accept (queued_of w) p (Striped x) ≡ Some made =
      subst (λ (z : Shape). accept (queued_of w) p z ≡ Some made) (sym o.is) accepted.makes in
      let inside : x.place < x.count =
      record_inside stripe_magic bytes (size_test (u32_at bytes 44) (length bytes) ∷ []) o.none in
      member-makes w firm p there made (stripe_member x)
      (λ g same.
      subst (λ (m : ℕ). x.place < m) (sym (same_stripe g.config x.id x.stripe x.count same)) inside)
      (standing_geom w.topology x.name (empty_stripe x)) refl made_is

  -- by the class
  pub accepted-makes : (kind : Kind) → IsAccepted w s p kind bytes shape made → Few kind
  accepted-makes kinds.Mbr accepted = mbr-makes accepted
  accepted-makes kinds.Ebr accepted = ebr-makes accepted
  accepted-makes kinds.Label accepted = named-makes accepted
  accepted-makes kinds.Concat accepted = concat-makes accepted
  accepted-makes kinds.Stripe accepted = stripe-makes accepted
  accepted-makes _ accepted = absurd (let e = accepted.verdict in let no : ⊥ = cc in no)
