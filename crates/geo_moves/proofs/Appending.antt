-- An append: what it names, what no test is against, and the consumer of the concat that joins.
use Rattle.std.specs.Prelude.{◌≡◌, nat_le, Bool, false, ◌||◌, length, Some, ◌≢◌, ℕ, ◌+◌, ◌<◌, ◌≤◌, ◌==◌, true, map, flat_map, sum, All, AllPairs, Contains, IsSome, IsSomeAnd, is_none, None, Result, Ok, Err, IfOk, List, Option, OnErr, [], ◌∷◌, ◌++◌, filter, IfSome, if◌then◌else◌, find, unwrap_or}
use Rattle.std.specs.Option.{option_map_or, option_to_list, option_map}
use Rattle.std.proofs.Common.{◌∙◌, ap, inl, sym, subst, arith, refl, rules}
use Rattle.geo_base.specs.declared.limits.TheConstants.{MAX_COMPONENTS, MAX_MEDIA_BYTES}
use Rattle.geo_model.specs.Graph.{IsInOrder}
use Rattle.geo_model.specs.Topology.{Topology, Geom, consumers_of, geom_at, provider_at, Consumer, Provider, consumer_at, providers_of, find_provider, providers_under, add_consumer}
use Rattle.geo_model.specs.Append.{is_invalid_append, Growing as GrowingConcat, append_tests, append_joined, append_tested, do_append, growing_concat, component_refusal}
use Rattle.geo_model.specs.World.{Config, World, granted_in}
use Rattle.geo_laws_making.proofs.Concats.{IsStanding, growing_stands, IsConcat, all-components, concat_of, no_more}
use Rattle.geo_moves.specs.declared.below.Below.{Below}
use Rattle.geo_moves.specs.declared.names.Growing.{Growing}
use Rattle.geo_moves.specs.Appends.{AreNamed, is_misfit, IsAble, IsAppended, HasJoined, new_refusal, grants_at}
use Rattle.std.specs.List.{AllZip, list_any, filter_map}
use Rattle.std.proofs.lemmas.Bool.{false_from_ne_true, eq-eqb, cases_Bool}
use Rattle.std.proofs.lemmas.List.{length-map, append-nil, length-append}
use Rattle.std.proofs.lemmas.List.Elements.{All-contains, filter-append, filter_map-append}
use Rattle.std.proofs.lemmas.Slice.Zip.{AllZip-long}
use Rattle.geo_model.specs.Place.{components}
use Rattle.geo_model.specs.Acceptance.{joined_size, places_of, add_place}
use Rattle.geo_model.specs.Fitting.{Firm, FitsPlace, FitsPlaces, HasItsSum, PlacesHold}
use Rattle.geo_model.specs.Sound.{IsOfItsClass, fits_kind}
use Rattle.geo_model.specs.Steady.{HasItsComponents, WaitsForPlaces}
use Rattle.geo_class.specs.Assembly.{CanGrow}
use Rattle.geo_laws_graph.proofs.Members.{find-Contains, Contains-filter, Contains-map, nothing_in}
use Rattle.geo_laws_graph.proofs.Numbered.{number_found}
use Rattle.geo_laws_life.proofs.Found.{found-with, one-found}
use Rattle.geo_laws_life.proofs.Standers.{recursion-from_pairs}
use Rattle.geo_laws_making.proofs.Rises.{geom_here, provider_own}
use Rattle.geo_moves.proofs.Finding.{none_against, seen-in, with_outcome}
use Rattle.geo_laws_making.proofs.Larger.{IsValid, valid_from}
use Rattle.geo_state.specs.declared.state.State.{State}
use Rattle.geo_state.specs.Steps.{IsFirm, SameWorld, Stands}
use Rattle.geo_state.specs.World.{world}
use Rattle.geo_state.proofs.FirmLemmas.{firm-order}
use Rattle.geo_base.specs.declared.errno.Errno.{Errno}
use Rattle.geo_model.specs.declared.command.LineCommand.{LineCommand}
use Rattle.geo_model.specs.declared.step.Entry.{Entry}
use Rattle.geo_model.specs.declared.step.Outcome.{Outcome}
use Rattle.geo_model.specs.declared.step.Outcome.TheVariants as outcomes
use Rattle.geo_model.specs.declared.step.Reply.TheVariants as replies
use Rattle.geo_model.specs.Words.{first_error}
use Rattle.geo_model.specs.GeomCommands.{found_provider}
use Rattle.geo_laws_making.proofs.Made.{through}
use Rattle.geo_access.specs.Access.{consumers_below, IsCounted, granted_by, noted, holds_grants}
use Rattle.geo_moves.specs.Below.{below_seen, provider_named}
use Rattle.geo_moves.specs.Names.{growing_seen}
use Rattle.geo_moves.proofs.Made.{below-number, below-of}
use Rattle.geo_model.specs.Demand.{risen, no_counts}
use Rattle.geo_model.specs.Opens.{below, join_refusal}
use Rattle.geo_slots.specs.Slots.{value_at}
use Rattle.geo_mesh.specs.Graph.{IsSoundGraph}
use Rattle.geo_mesh.specs.Topo.{TopoView, with_consumer, without_consumer, IsButForRoom}
use Rattle.geo_laws_counts.proofs.Openers.{below_same}
use Rattle.geo_access.specs.GoneLaws.{HasUsedNumber}
use Rattle.geo_access.specs.Join.{IsCountedBut, IsLoose, joined_view}
use Rattle.geo_access.proofs.NewJoiner.{new_consumers_may_join}
use Rattle.geo_access.proofs.Gone.{refused_consumers_go}
use Rattle.geo_base.specs.declared.request.Counts.{Counts}
use Rattle.geo_moves.proofs.Adding.{no_consumer}
use Rattle.geo_state.proofs.GrantLaws.{comers_hold_nothing}
use Rattle.geo_base.proofs.Options.{some-there}
use Rattle.geo_model.specs.HandleCommands.{without_number}
use Rattle.geo_state.specs.Holds.{Holds}
use Rattle.geo_moves.proofs.Admitting.{room-kept, used-kept}

-- What is against an append, by what the walks find

module _ {t : Topology Config} (order : IsInOrder t) {g : Growing} {b : Below} (n : AreNamed t g b) where
  -- the concat stands
  pub named-stands : IsStanding t n.concat
  named-stands = growing_stands t n.name n.concat order n.grows

  -- its geom and its provider are found
  pub named-geom : geom_at t g.geom ≡ Some n.concat.geom
  named-geom = ap (λ (x : Growing). geom_at t x.geom) n.growing_is ∙ named-stands.found.geom

  pub named-offer : provider_at t g.prov ≡ Some n.concat.provider
  named-offer = ap (λ (x : Growing). provider_at t x.prov) n.growing_is ∙ named-stands.found.provider

  -- so the tests read them
  pub invalid-told : {a f m : Bool} → a ≡ option_map_or (λ (y : Geom Config). y.automatic) (geom_at t g.geom) false
      → f ≡ nat_le MAX_COMPONENTS (length (consumers_of t g.geom))
      → m ≡ option_map_or (is_misfit b.sector b.size) (provider_at t g.prov) false
      → (a || (f || m)) ≡ is_invalid_append t n.concat n.provider
  invalid-told automatic full misfit = λ i.
      (automatic ∙ ap (λ o. option_map_or (λ (y : Geom Config). y.automatic) o false) named-geom) i
      || ((full ∙ ap (λ (x : Growing). nat_le MAX_COMPONENTS (length (consumers_of t x.geom))) n.growing_is) i
      || (misfit ∙ ap (λ o. option_map_or (is_misfit b.sector b.size) o false) named-offer
      ∙ ap (λ (x : Below). is_misfit x.sector x.size n.concat.provider) n.below_is) i)

-- A concat that may grow can hold the size more, by what a firm world keeps of its places

module _ (w : World) (x : GrowingConcat) (firm : Firm w) (is : IsStanding w.topology x) where
  abbrev graph : Topology Config
  graph = w.topology

  abbrev n : ℕ
  n = x.geom.number

  -- its configuration is a concat's
  its : IsConcat x.geom.config
  its = concat_of x.geom.config (subst (λ k. fits_kind k x.geom.config ≡ true) is.kind
      (All-contains IsOfItsClass graph.geoms x.geom firm.graph.numbers.classes (geom_here w x firm is)).config)

  -- its places have sizes
  fitted : AllZip (FitsPlace graph n) its.places its.sizes
  fitted = search (rules, All-contains (FitsPlaces graph) graph.geoms x.geom firm.sizes.places (geom_here w x firm is))

  -- none of them is free, since it has a provider
  no_free : list_any is_none its.places ≡ false
  no_free = false_from_ne_true (list_any is_none its.places) (λ free.
      let none_left = All-contains (WaitsForPlaces graph) graph.geoms x.geom firm.graph.partial (geom_here w x firm is)
      (ap (λ z. list_any is_none (places_of z)) its.is ∙ free) in
      nothing_in x.provider (subst (λ ys. Contains ys x.provider) none_left (provider_own w x firm is)))

  -- each component is a consumer of it
  stood : All (λ d. IsSomeAnd (consumer_at graph d) (λ z. (z.geom ≡ n) × IsSome z.provider))
      (flat_map option_to_list its.places)
  stood = subst (λ z. All (λ d. IsSomeAnd (consumer_at graph d) (λ z. (z.geom ≡ n) × IsSome z.provider))
      (components z)) its.is
      (All-contains (HasItsComponents (granted_in w) graph) graph.geoms x.geom firm.demand.components
      (geom_here w x firm is) (inl is.upright))

  -- its provider is as long as they are together
  summed : x.provider.size ≡ sum its.sizes
  summed =
      All-contains (λ (y : Provider). y.size ≡ joined_size x.geom.config) (providers_of graph n) x.provider
      (All-contains (HasItsSum graph) graph.geoms x.geom firm.sizes.sums (geom_here w x firm is) (inl is.kind))
      (provider_own w x firm is)
      ∙ ap joined_size its.is

  -- the components are different
  apart : AllPairs (λ a b. a ≢ b) (flat_map option_to_list its.places)
  apart = search (rules, All-contains PlacesHold graph.geoms x.geom firm.sizes.apart (geom_here w x firm is))

  -- so they are no more than its consumers
  few : length its.places ≤ length (consumers_of graph n)
  few =
      let all = all-components its.places no_free in
      let less = no_more (flat_map option_to_list its.places)
      (map (λ (z : Consumer). z.number) (consumers_of graph n))
      (recursion-from_pairs (λ a b. a ≢ b) (flat_map option_to_list its.places) apart) (λ m here.
      let d = found-with (consumer_at graph m) (λ z. (z.geom ≡ n) × IsSome z.provider)
      (All-contains (λ d. IsSomeAnd (consumer_at graph d) (λ z. (z.geom ≡ n) × IsSome z.provider))
      (flat_map option_to_list its.places) m stood here) in
      subst (Contains (map (λ (z : Consumer). z.number) (consumers_of graph n)))
      (number_found (λ (z : Consumer). z.number) graph.consumers m d.item d.is)
      (Contains-map (λ (z : Consumer). z.number) (consumers_of graph n) d.item
      (Contains-filter (λ (z : Consumer). z.geom == n) graph.consumers d.item
      (find-Contains (λ (z : Consumer). z.number == m) graph.consumers d.item d.is)
      (eq-eqb d.item.geom n d.fact.0)))) in
      let same = length-map (consumers_of graph n) (λ (z : Consumer). z.number) in
      omega arith

  -- and it can get one more
  pub can-grow : (size : ℕ) → length (consumers_of graph n) < MAX_COMPONENTS → x.provider.size + size ≤ MAX_MEDIA_BYTES
      → CanGrow x.geom.config size
  can-grow size short fits = search (rules, few, AllZip-long (FitsPlace graph n) its.places its.sizes fitted, summed)

-- An append that no test is against: the configuration of the concat can get one more place

module _ (s : State) (firm : IsFirm s) (g : Growing) (b : Below) (able : IsAble s g b) where
  abbrev w : World
  w = world firm.1.0 firm.0 s

  -- what no test is against is valid
  pub able-valid : IsValid s.topo.topology able.named.concat able.named.provider
  able-valid =
      valid_from s.topo.topology able.named.concat able.named.provider
      (none_against (append_tests w able.named.concat able.named.provider) (able.free firm.1.0 firm.0)).0

  -- the geom is found
  pub able-geom : geom_at s.topo.topology g.geom ≡ Some able.named.concat.geom
  able-geom = named-geom (firm-order firm.0 s firm.1) able.named

  pub able-found : geom_at s.topo.topology g.geom ≡ None → ⊥
  able-found none = let no : Some able.named.concat.geom ≡ None = sym able-geom ∙ none in absurd (cc)

  -- its configuration can get the place
  pub able-config : (y : Geom Config) → geom_at s.topo.topology g.geom ≡ Some y
      → y.config ≡ able.named.concat.geom.config
  able-config y found =
      ap (λ (z : Geom Config). z.config)
      (one-found (geom_at s.topo.topology g.geom) y able.named.concat.geom found able-geom)

  pub able-grows : (y : Geom Config) → geom_at s.topo.topology g.geom ≡ Some y → CanGrow y.config b.size
  able-grows y found =
      let valid = able-valid in
      subst (λ k. CanGrow k b.size) (sym (able-config y found))
      (subst (CanGrow able.named.concat.geom.config) (sym (ap (λ (x : Below). x.size) able.named.below_is))
      (can-grow w able.named.concat firm.1.1 (named-stands (firm-order firm.0 s firm.1) able.named)
      able.named.provider.size valid.few valid.limited))

  -- and gets it
  pub able-longer : (y : Geom Config) → geom_at s.topo.topology g.geom ≡ Some y → (c : ℕ) (config : Config)
      → c ≡ s.topo.topology.next_consumer → config ≡ add_place y.config c b.size
      → config
      ≡ add_place able.named.concat.geom.config s.topo.topology.next_consumer able.named.provider.size
  able-longer y found c config number is = search (rules, able-config y found)

  -- its provider is found
  offer_found : provider_at s.topo.topology g.prov ≡ Some able.named.concat.provider
  offer_found = named-offer (firm-order firm.0 s firm.1) able.named

  pub offer_there : provider_at s.topo.topology g.prov ≡ None → ⊥
  offer_there none = search (rules, Some able.named.concat.provider, offer_found)

  module _ (y : Provider) (found : provider_at s.topo.topology g.prov ≡ Some y) where
    -- both sizes together
    pub sum_is : y.size + b.size ≡ able.named.concat.provider.size + able.named.provider.size
    sum_is =
        λ i. (one-found (provider_at s.topo.topology g.prov) y able.named.concat.provider found offer_found i).size
        + (able.named.below_is i).size

    -- are no more than a provider may have
    pub sum_fits : y.size + b.size ≤ MAX_MEDIA_BYTES
    sum_fits = let valid = able-valid in subst (λ n. n ≤ MAX_MEDIA_BYTES) (sym sum_is) valid.limited

-- so whatever memory there is
pub all-longer : {E : Type 0} (s : State) (firm : IsFirm s) (g : Growing) (b : Below)
    (y : Geom Config) → geom_at s.topo.topology g.geom ≡ Some y → (c : ℕ)
    → c ≡ s.topo.topology.next_consumer
    → (r : Result Config E) → IfOk r (λ config. config ≡ add_place y.config c b.size)
    → IfOk r (λ config. (able : IsAble s g b)
    → config ≡ add_place able.named.concat.geom.config s.topo.topology.next_consumer able.named.provider.size)
all-longer s firm g b y found c number (Ok config) is = search (rules, able-longer s firm g b)
all-longer s firm g b y found c number (Err e) nothing = tt

-- A state whose queue has other room: it stands for the same world, so what may be appended may be appended

-- what an append of a component answers and makes of a state
abbrev pub IsTold : State → Growing → Below → State → Option Errno → Type 0
IsTold s g b new e =
    (able : IsAble s g b) → (actors : List (List LineCommand)) (log : List Entry)
    → IsAppended (world actors log s) (world actors log new) able.named.concat able.named.provider e

module _ (s r : State) (rest : r ≡ record s { queue = r.queue }) (events : r.queue.events ≡ s.queue.events) where
  -- it stands for the same world
  pub reserved_world : SameWorld s r
  reserved_world actors log = search (rules, ap (world actors log) rest)

  -- which is as firm as it was
  pub reserved_firm : IsFirm s → IsFirm r
  reserved_firm firm = search (rules, reserved_world firm.1.0 firm.0)

  module _ (g : Growing) (b : Below) where
    -- the same can be appended
    pub reserved_able : IsAble s g b → IsAble r g b
    reserved_able able =
        subst (λ (z : State). IsAble z g b) (sym rest) (record { named = able.named; free = able.free })

    module _ {E : Type 0} (new : State) where
      -- what is told of the one is told of the other
      told_before : (o : Result (Option Errno) E) → IfOk o (IsTold (record s { queue = r.queue }) g b new)
          → IfOk o (IsTold s g b new)
      told_before (Ok e) told = λ able actors log.
          search (rules, told (record { named = able.named; free = able.free }) actors log)
      told_before (Err e) told = tt

      pub reserved_told : (o : Result (Option Errno) E) → IfOk o (IsTold r g b new) → IfOk o (IsTold s g b new)
      reserved_told o told = search (rules, told_before o (subst (λ (z : State). IfOk o (IsTold z g b new)) rest told))

      -- and where memory is wanting it is the same world still
      pub reserved_same : (o : Result (Option Errno) E) → OnErr o (SameWorld r new) → OnErr o (SameWorld s new)
      reserved_same (Ok e) same = tt
      reserved_same (Err e) same = λ actors log. same actors log ∙ reserved_world actors log

-- The answers of an append, from what its body knows

-- What was found

-- the provider has the number that its name is found by
number-of-name : (t : Topology Config) (prov : List ℕ) {below : Below}
    → Some below ≡ option_map (below_seen t) (provider_named t prov) → find_provider t prov ≡ Some below.prov
number-of-name t prov {below} told =
    let at = below-of t prov told in
    let n = through (provider_at t) (find_provider t prov) at.p at.named in
    n.is
    ∙ ap (λ m. Some m)
    (sym (ap (λ (y : Below). y.prov) at.is
    ∙ number_found (λ (y : Provider). y.number) t.providers n.first at.p n.then))

-- the concat and the provider that an append names
pub record IsAsked (t : Topology Config) (name prov : List ℕ) (growing : Growing) (below : Below) : Type 0 where
  pub named : AreNamed t growing below
  pub grows : growing_concat t name ≡ Some named.concat
  pub found : provider_named t prov ≡ Some named.provider

pub asked : (s : State) → IsFirm s → (name prov : List ℕ) {growing : Growing} {below : Below}
    → Some growing ≡ option_map growing_seen (growing_concat s.topo.topology name)
    → Some below ≡ option_map (below_seen s.topo.topology) (provider_named s.topo.topology prov)
    → IsAsked s.topo.topology name prov growing below
asked s firm name prov grown told =
    let t : Topology Config = s.topo.topology in
    let x = seen-in growing_seen (growing_concat t name) grown in
    let at = below-of t prov told in
    record {
      named = record {
        name = name;
        concat = x.item;
        provider = at.p;
        grows = x.is;
        found = below-number s firm at;
        growing_is = x.seen;
        below_is = at.is;
      };
      grows = x.is;
      found = at.named;
    }

-- Answers

module _ (s new : State) (line : ℕ) (o : Outcome) (actors : List (List LineCommand)) (log : List Entry) where
  abbrev was : World
  was = world actors log s

  module _ {name prov : List ℕ} {growing : Growing} {below : Below}
      (a : IsAsked s.topo.topology name prov growing below) where
    -- what was found is tested
    tested : do_append was line (growing_concat was.topology name) (found_provider was prov)
        ≡ append_tested was line a.named.concat a.named.provider
        (first_error (append_tests was a.named.concat a.named.provider))
    tested =
        ap (λ y. do_append was line y (found_provider was prov)) a.grows
        ∙ ap (do_append was line (Some a.named.concat)) a.found

    -- where a test is against it
    pub append-refused : (e : Errno) → Some e ≡ first_error (append_tests was a.named.concat a.named.provider)
        → o ≡ outcomes.Replied line (replies.Refused e)
        → do_append was line (growing_concat was.topology name) (found_provider was prov) ≡ (was, o)
    append-refused e told is =
        tested
        ∙ ap (append_tested was line a.named.concat a.named.provider) (sym told)
        ∙ ap (with_outcome was) (sym is)

    -- where none is, by what became of the component
    module _ (none : (k : List (List LineCommand)) (l : List Entry)
        → None ≡ first_error (append_tests (world k l s) a.named.concat a.named.provider)) (r : Option Errno)
        (does : (able : IsAble s growing below) → (k : List (List LineCommand)) (l : List Entry)
        → IsAppended (world k l s) (world k l new) able.named.concat able.named.provider r) where
      answered : o ≡ (append_joined was line a.named.concat a.named.provider r).1
          → do_append was line (growing_concat was.topology name) (found_provider was prov) ≡ (world actors log new, o)
      answered is =
          let able : IsAble s growing below = record { named = a.named; free = λ k l. sym (none k l) } in
          let made : IsAppended was (world actors log new) a.named.concat a.named.provider r = does able actors log in
          let j : World × Outcome = append_joined was line a.named.concat a.named.provider r in
          tested
          ∙ ap (append_tested was line a.named.concat a.named.provider) (sym (none actors log))
          ∙ ap (append_joined was line a.named.concat a.named.provider) (sym made.refused)
          ∙ ap (λ z. with_outcome z j.1) (sym (made.made line))
          ∙ ap (with_outcome (world actors log new)) (sym is)

      pub append-stopped : (e : Errno) → r ≡ Some e → o ≡ outcomes.Replied line (replies.Refused e)
          → do_append was line (growing_concat was.topology name) (found_provider was prov) ≡ (world actors log new, o)
      append-stopped e told is =
          answered (is ∙ ap (λ z. (append_joined was line a.named.concat a.named.provider z).1) (sym told))

      pub append-done : r ≡ None → o ≡ outcomes.Replied line replies.Ok
          → do_append was line (growing_concat was.topology name) (found_provider was prov) ≡ (world actors log new, o)
      append-done told is =
          answered (is ∙ ap (λ z. (append_joined was line a.named.concat a.named.provider z).1) (sym told))

-- an append that no test is against can be tried
pub append-able : (s : State) {name prov : List ℕ} {growing : Growing} {below : Below}
    (a : IsAsked s.topo.topology name prov growing below) → ((actors : List (List LineCommand)) (log : List Entry)
    → None ≡ first_error (append_tests (world actors log s) a.named.concat a.named.provider)) → IsAble s growing below
append-able s a none = record { named = a.named; free = λ actors log. sym (none actors log) }

-- its steps are those below the provider of the name
pub append-bound : (t : Topology Config) (prov : List ℕ) {below : Below}
    → Some below ≡ option_map (below_seen t) (provider_named t prov) → (old new : ℕ)
    → new ≤ old + (consumers_below t below.prov + 2)
    → new ≤ old + option_map_or (λ p. consumers_below t p + 2) (find_provider t prov) 0
append-bound t prov told old new most = search (rules, number-of-name t prov told)

-- A new consumer of a concat that joins a provider, or is refused

-- Consumers below

module _ (t : Topology Config) (geom : ℕ) where
  -- a consumer that is attached to nothing, and the graph with it
  abbrev loose : Consumer
  loose = record { number = t.next_consumer; geom = geom; provider = None; spoiled = false }

  abbrev u : Topology Config
  u = add_consumer t geom None

  -- it adds nothing right below a geom
  loose_under : (g : ℕ) → providers_under u g ≡ providers_under t g
  loose_under g =
      search (
        rules,
        ap (filter_map (λ (x : Consumer). x.provider))
            (filter-append (λ (x : Consumer). x.geom == g) t.consumers (loose ∷ [])),
        filter-append (λ (x : Consumer). x.geom == g) t.consumers (loose ∷ []),
        filter_map-append (λ (x : Consumer). x.provider) (consumers_of t g)
            (filter (λ (x : Consumer). x.geom == g) (loose ∷ [])),
        append-nil (providers_under t g),
      )

  -- so the same providers are reached
  loose_below : (p : ℕ) → below u p ≡ below t p
  loose_below p = below_same t u (λ q. refl) (λ x there. loose_under x.geom) (length t.geoms) p

  -- and at most one more consumer is counted
  one_more : (test : Consumer → Bool) → length (filter test u.consumers) ≤ length (filter test t.consumers) + 1
  one_more test =
      search (
        rules,
        filter-append test t.consumers (loose ∷ []),
        length-append (filter test t.consumers) (filter test (loose ∷ [])),
        test loose,
      )

  loose_counted : (p : ℕ) → consumers_below u p ≤ consumers_below t p + 1
  loose_counted p =
      subst (λ qs. length (filter (λ (c : Consumer). list_any
      (λ q. option_map_or (λ (y : Provider). y.geom == c.geom) (provider_at t q) false) qs) u.consumers)
      ≤ consumers_below t p + 1) (sym (loose_below p))
      (one_more (λ (c : Consumer). list_any
      (λ q. option_map_or (λ (y : Provider). y.geom == c.geom) (provider_at t q) false) (below t p)))

-- with it at most one more consumer is below a provider, which is one step more
pub comer_bound : (t m : TopoView Config) (geom prov : ℕ) → IsButForRoom m (with_consumer t geom) → (old new : ℕ)
    → new ≤ old + (consumers_below m.topology prov + 1) → new ≤ old + (consumers_below t.topology prov + 2)
comer_bound t m geom prov added old new most = search (rules, loose_counted t.topology geom prov)

-- what holds of something that is there holds if it is there
if_there : {X : Type 0} (P : X → Type 0) (o : Option X) → IsSomeAnd o P → IfSome o P
if_there P None never = tt
if_there P (Some x) fact = fact

module _ (t m : TopoView Config) (geom cons : ℕ) (added : IsButForRoom m (with_consumer t geom))
    (number : cons ≡ t.topology.next_consumer) where
  -- all counts are kept but those of the new consumer
  pub comer_counted : IsSoundGraph t.topology → IsCounted t → IsCountedBut m cons
  comer_counted sound counted =
      subst (IsCountedBut m) (sym number) ((new_consumers_may_join {C = Config}).counted t m geom sound added counted)

  module _ (sound : IsSoundGraph t.topology) (unknown : value_at t.active t.topology.next_consumer ≡ None) where
    -- which is attached to nothing
    pub comer_loose : IsLoose m cons
    comer_loose =
        subst (IsLoose m) (sym number) ((new_consumers_may_join {C = Config}).loose t m geom sound added unknown)

    -- so where nothing has changed it can be destroyed
    pub comer_free : (k : TopoView Config) → k ≡ m → IfSome (consumer_at k.topology cons) (λ x. x.provider ≡ None)
    comer_free k same =
        search (rules, if_there (λ (x : Consumer). x.provider ≡ None) (consumer_at m.topology cons) comer_loose.free)

    -- and then it has used up a number
    pub comer_used : IsCounted t → (k new : TopoView Config) → k ≡ m → new ≡ without_consumer k cons
        → HasUsedNumber t new
    comer_used counted k new same gone =
        subst (HasUsedNumber t)
        (sym (gone ∙ ap (λ (v : TopoView Config). without_consumer v cons) same ∙ ap (without_consumer m) number))
        ((refused_consumers_go {C = Config}).loose t m geom
        (record { sound = sound; counted = counted; unknown = unknown; comes = added }))

  -- what refuses it
  pub comer_refusal : (prov : ℕ) → join_refusal (granted_by m) m.topology cons prov ≡ new_refusal t geom prov
  comer_refusal prov =
      ap (λ n. join_refusal (granted_by m) m.topology n prov) number
      ∙ ap (λ (v : TopoView Config). join_refusal (granted_by v) v.topology t.topology.next_consumer prov) added

  -- where nothing does, it has joined
  pub comer_joined : (prov : ℕ) (new : TopoView Config) → new ≡ joined_view m cons prov → IsCounted new
      → noted new.risen ≡ risen (granted_by m) m.topology (granted_by m) new.topology
      → HasJoined t geom prov new
  comer_joined prov new joined counts rose =
      let n : ℕ = t.topology.next_consumer in
      search (
        rules,
        ap (λ k. joined_view m k prov) number,
        ap (λ (v : TopoView Config). joined_view v n prov) added,
        ap (λ (v : TopoView Config). risen (granted_by v) v.topology (granted_by v) new.topology) added,
      )

-- What is granted where a consumer of a concat comes: nobody is granted anything else

-- what is seen of the geom of a consumer that is found is the same where the last one has another provider
same_last : (f : ℕ → Counts) (n : ℕ) (xs : List Consumer) (number geom : ℕ) (to other : Option ℕ)
    → option_map_or (λ (x : Consumer). f x.geom) (find (λ (x : Consumer). x.number == n)
    (xs ++ record { number = number; geom = geom; provider = to; spoiled = false } ∷ [])) no_counts
    ≡ option_map_or (λ (x : Consumer). f x.geom) (find (λ (x : Consumer). x.number == n)
    (xs ++ record { number = number; geom = geom; provider = other; spoiled = false } ∷ [])) no_counts
same_last f n [] number geom to other = search (rules, cases_Bool (number == n))
same_last f n (y ∷ ys) number geom to other =
    search (rules, cases_Bool (y.number == n), same_last f n ys number geom to other)

module _ (t : TopoView Config) (order : IsInOrder t.topology) (counted : IsCounted t) (geom : ℕ) where
  -- one that is attached to nothing holds nothing either
  loose-granted : (n : ℕ) → grants_at t geom n ≡ granted_by t n
  loose-granted n =
      same_last
      (λ g. if holds_grants t.topology g
      then unwrap_or (value_at (with_consumer t geom).wants n) no_counts else no_counts) n t.topology.consumers
      t.topology.next_consumer geom None (Some 0)
      ∙ comers_hold_nothing t geom 0 counted (no_consumer t counted order t.room) n

  -- so all grants are the same
  pub loose-grants : grants_at t geom ≡ granted_by t
  loose-grants = λ i n. loose-granted n i

  -- and so is what refuses it
  pub refusal-is : (prov : ℕ) → new_refusal t geom prov
      ≡ join_refusal (granted_by t) (add_consumer t.topology geom None) t.topology.next_consumer prov
  refusal-is prov =
      ap (λ (G : ℕ → Counts). join_refusal G (add_consumer t.topology geom None) t.topology.next_consumer prov)
      loose-grants

-- A state in which a consumer of a concat joined a provider, or was refused

module _ (s : State) (stands : Stands s) where
  abbrev t : Topology Config
  t = s.topo.topology

  module _ (g : Growing) (b : Below) (able : IsAble s g b) where
    -- the geom and the provider are there
    pub able-stands : IsSome (geom_at t g.geom)
    able-stands = some-there (geom_at t g.geom) able.named.concat.geom (able-geom s stands.firm g b able)

    pub able-lives : IsSome (provider_at t b.prov)
    able-lives =
        some-there (provider_at t b.prov) able.named.provider
        (ap (λ (x : Below). provider_at t x.prov) able.named.below_is ∙ able.named.found)

    -- what refuses the consumer is what the model says
    pub able-refusal : (actors : List (List LineCommand)) (log : List Entry) → new_refusal s.topo g.geom b.prov
        ≡ component_refusal (world actors log s) able.named.concat able.named.provider
    able-refusal actors log =
        refusal-is s.topo (firm-order stands.firm.0 s stands.firm.1) stands.kept.counted g.geom b.prov
        ∙ (λ i. join_refusal (stands.kept.grants i) (add_consumer t (able.named.growing_is i).geom None)
        t.next_consumer (able.named.below_is i).prov)

  -- where a number was used up, that is all
  pub used-world : (u : TopoView Config) → HasUsedNumber s.topo u → (actors : List (List LineCommand))
      → (log : List Entry) → world actors log (record s { topo = u }) ≡ without_number (world actors log s)
  used-world u used actors log = ap (λ (v : TopoView Config). world actors log (record s { topo = v })) used

  -- by how the call ends
  module _ {E : Type 0} (u : TopoView Config) where
    pub answer-told : (r : Result (Option Errno) E) (g : Growing) (b : Below)
        → IfOk r (λ o. o ≡ new_refusal s.topo g.geom b.prov)
        → IfOk r (λ o. (able : IsAble s g b) → (actors : List (List LineCommand)) (log : List Entry)
        → o ≡ component_refusal (world actors log s) able.named.concat able.named.provider)
    answer-told (Ok o) g b is = λ able actors log. is ∙ able-refusal g b able actors log
    answer-told (Err e) g b is = tt

    pub used-told : (r : Result (Option Errno) E) → IfOk r (λ o. IsSome o → HasUsedNumber s.topo u)
        → IfOk r (λ o. IsSome o → (actors : List (List LineCommand)) (log : List Entry)
        → world actors log (record s { topo = u }) ≡ without_number (world actors log s))
    used-told (Ok o) used = λ some. used-world u (used some)
    used-told (Err e) used = tt

    pub kept-told : (r : Result (Option Errno) E) → IfOk r (λ o. IsSome o → HasUsedNumber s.topo u)
        → IfOk r (λ o. IsSome o → Holds (record s { topo = u }))
    kept-told (Ok o) used = λ some. used-kept s stands.kept u (used some)
    kept-told (Err e) used = tt

    pub room-told : (r : Result (Option Errno) E) → OnErr r (IsButForRoom u s.topo)
        → OnErr r (Holds (record s { topo = u }))
    room-told (Ok o) same = tt
    room-told (Err e) same = room-kept s stands.kept u same

    pub same-told : (r : Result (Option Errno) E) → OnErr r (IsButForRoom u s.topo)
        → OnErr r (SameWorld s (record s { topo = u }))
    same-told (Ok o) same = tt
    same-told (Err e) same = search rules
