-- An Event and a Wash that is not early lower the measure: what loses something raises no cost.
use Rattle.std.specs.Prelude.{◌≡◌, ◌≢◌, ℕ, ◌+◌, ◌*◌, ◌<◌, ◌≤◌, ◌==◌, Bool, true, false, not, List, [], ◌∷◌, ◌++◌, map, filter, fold, sum_by, count_by, Option, Some, None, IsSomeAnd, cond, if◌then◌else◌, suc, ◌-◌, nat_le, ◌||◌, length, Contains, IsSome, is_some, ◌&&◌, find, option_map, option_and_then}
use Rattle.std.specs.List.{AllByRecursion, list_any}
use Rattle.std.proofs.Common.{refl, sym, ◌∙◌, ap, subst, arith, inl, inr}
use Rattle.std.proofs.lemmas.Bool.{cases_Bool, not-true, cases_lt, le-leb, or_parts, eq-eqb}
use Rattle.std.proofs.lemmas.List.Sums.{sum_by_push, sum_by-cons}
use Rattle.std.specs.Option.{option_map_or, option_or}
use Rattle.std.proofs.lemmas.List.Elements.{All-contains}
use Rattle.std.proofs.lemmas.Bool.Decides.{eqb_tells}
use Rattle.geo_base.specs.declared.request.Counts.{Counts}
use Rattle.geo_base.specs.declared.limits.TheConstants.{UNTASTED_RANK}
use Rattle.geo_base.proofs.Options.{none_of, there_with_fact}
use Rattle.geo_base.proofs.FilterLists.{length-kept, count-kept}
use Rattle.geo_model.specs.declared.step.Event.{Event}
use Rattle.geo_model.specs.declared.step.Event.TheVariants as events
use Rattle.geo_model.specs.Topology.{Topology, Provider, Consumer, provider_at, providers_of, attached_to, is_withering, set_error, set_withering, set_marks, Geom, geom_at, geom_of_provider, is_errored, consumer_at, consumers_of, remove_provider, remove_consumer, remove_geom}
use Rattle.geo_model.specs.Graph.{AreNumbers}
use Rattle.geo_model.specs.World.{World, Config, Handle, granted_in, is_active}
use Rattle.geo_model.specs.Events.{QueuedTopology, orphan_provider, wither, wither_unless_withering, spoil_consumer, spoil, is_of_dev, orphan_consumer, orphan, is_outgrown, outgrow_consumer, provider_of_event, post, is_not_tasted, dying_consumers, without_events_of}
use Rattle.geo_model.specs.Order.{event_weight, is_loss, taste_weight, taste_weight_below, rank_of_provider, taste_left, IsLess, measure}
use Rattle.geo_model.proofs.FullLemmas.{change_where-count-found}
use Rattle.geo_model.specs.declared.command.LineCommand.{LineCommand}
use Rattle.geo_model.specs.Words.{names_number, first_some}
use Rattle.geo_model.specs.Rank.{rank}
use Rattle.geo_model.specs.Demand.{have}
use Rattle.geo_model.specs.WorldEvents.{queued_of, with_queued, begin_taste, kill_handle, do_event}
use Rattle.geo_model.specs.Fitting.{Firm}
use Rattle.geo_model.specs.declared.step.Step.TheVariants as steps
use Rattle.geo_model.specs.declared.step.WashWork.{WashWork}
use Rattle.geo_model.specs.declared.step.WashWork.TheVariants as washes
use Rattle.geo_model.specs.Freeing.{is_idle, wash_work_of, first_wash, wash_work, wash, washed}
use Rattle.geo_model.specs.Laws.{is_offer, is_of_consumer, is_early_wash}
use Rattle.geo_model.proofs.DemandLemmas.{find_passes}
use Rattle.geo_laws_graph.proofs.Lists.{Rise, rise-from, rise-kept, map-changed}
use Rattle.geo_laws_graph.proofs.Members.{All-from_contained, at_contained, filter-Contains, map-Contains, has, Contains-here, Origin, find-Contains, Contains-filter, nothing_in}
use Rattle.geo_laws_graph.proofs.Numbered.{each_found, at-unchanged, number_found, at-kept}
use Rattle.geo_laws_graph.proofs.Opens.{open-rises}
use Rattle.geo_laws_graph.proofs.Found.{removed-provider, removed-geom}
use Rattle.geo_laws_graph.proofs.RankChanges.{removing-stay}
use Rattle.geo_laws_counts.proofs.Levels.{of_each}
use Rattle.geo_laws_life.proofs.Found.{FoundWith}
use Rattle.geo_laws_life.specs.LessLaws.{IsSpent}
use Rattle.geo_laws_life.proofs.Removals.{IsBareGeom}
use Rattle.geo_laws_life.proofs.Washed.{CanWash, washed-firm, found-can}
use Rattle.geo_laws_rest.proofs.Lowered.{KeepsRanks, keeps_twice, same_ranks, errored_ranks, withering_ranks, marked_ranks, commands_of, handles_of, tasting_of, losses_of, tasting_less, losses_less, sum_mapped, rank_same, weights_same, weight_some, elsewhere, parts_less, sum_kept, left_same, rank_stays, Cheaper, event_most, left_most, no_offers, left_out_length}
use Rattle.geo_laws_rest.proofs.Started.{Keeps, now_most}

-- errors to come, and the events of losses, of a graph and a queue
abbrev pub losses_in : QueuedTopology Config → ℕ
losses_in q = 2 * count_by (λ p. not p.errored) q.topology.providers + count_by is_loss q.events

-- the numbers of providers are in order
abbrev pub InOrder : QueuedTopology Config → Type 0
InOrder q = AreNumbers (map (λ (x : Provider). x.number) q.topology.providers) q.topology.next_provider

-- no losses more, ranks stay, and the queue costs tasting nothing more
pub record OnlyLoses (q r : QueuedTopology Config) : Type 0 where
  pub losses : losses_in r ≤ losses_in q
  pub order : InOrder r
  pub ranks : KeepsRanks q.topology r.topology
  pub costs : (u : World) → sum_by (event_weight u) r.events ≡ sum_by (event_weight u) q.events

-- nothing happens
loses_nothing : (q : QueuedTopology Config) → InOrder q → OnlyLoses q q
loses_nothing q order =
    record { losses = omega arith; order = order; ranks = same_ranks q.topology; costs = λ u. refl }

-- twice
loses_twice : (q r s : QueuedTopology Config) → OnlyLoses q r → OnlyLoses r s → OnlyLoses q s
loses_twice q r s one two = record {
  losses = omega (arith, one.losses, two.losses);
  order = two.order;
  ranks = keeps_twice q.topology r.topology s.topology one.ranks two.ranks;
  costs = λ u. two.costs u ∙ one.costs u;
}

-- one effect after another
loses_all : {X : Type 0} (effect : QueuedTopology Config → X → QueuedTopology Config)
    → ((q : QueuedTopology Config) (x : X) → InOrder q → OnlyLoses q (effect q x))
    → (xs : List X) (q : QueuedTopology Config) → InOrder q → OnlyLoses q (fold effect q xs)
loses_all effect so [] q order = loses_nothing q order
loses_all effect so (x ∷ xs) q order =
    let one = so q x order in
    loses_twice q (effect q x) (fold effect (effect q x) xs) one (loses_all effect so xs (effect q x) one.order)

-- Errors

-- a provider stands without an error
abbrev IsFine : Topology Config → ℕ → Type 0
IsFine t n = IsSomeAnd (provider_at t n) (λ x. x.errored ≡ false)

-- the numbers of providers stay in order with an error
errored_order : (q : QueuedTopology Config) (n : ℕ) → InOrder q → InOrder (orphan_provider q n)
errored_order q n order =
    subst (λ (ns : List ℕ). AreNumbers ns q.topology.next_provider)
    (sym (map-changed (λ (x : Provider). x.number == n) (λ x. record x { errored = true }) (λ x. x.number)
    (λ x e. refl) q.topology.providers)) order

-- a provider without an error that is found
fine_by : (q : QueuedTopology Config) (n : ℕ) (o : Option Provider) → provider_at q.topology n ≡ o
    → IsSomeAnd o (λ x. x.errored ≡ false)
    → count_by (λ p. not p.errored) (set_error q.topology n).providers + 1
    ≤ count_by (λ p. not p.errored) q.topology.providers
fine_by q n None e fine = absurd fine
fine_by q n (Some x) e fine =
    change_where-count-found (λ (p : Provider). not p.errored) (λ (p : Provider). p.number == n)
    (λ p. record p { errored = true }) (λ p. refl) q.topology.providers x e (ap not fine)

-- it gets an error
orphan_loses : (q : QueuedTopology Config) (n : ℕ) → InOrder q → IsFine q.topology n
    → OnlyLoses q (orphan_provider q n)
orphan_loses q n order fine = record {
  losses =
      let fewer = fine_by q n (provider_at q.topology n) refl fine in
      let more : count_by is_loss (q.events ++ events.Orphan n ∷ []) ≡ count_by is_loss q.events + 1 =
      sum_by_push (λ (e : Event). cond (is_loss e) 1 0) q.events (events.Orphan n) in
      omega (arith, fewer, more);
  order = errored_order q n order;
  ranks = errored_ranks q.topology n;
  costs = λ u.
      let e : sum_by (event_weight u) (q.events ++ events.Orphan n ∷ []) ≡ sum_by (event_weight u) q.events + 0 =
      sum_by_push (event_weight u) q.events (events.Orphan n) in
      omega (arith, e);
}

-- numbers that rise from above one are others
apart : (n low high : ℕ) (ns : List ℕ) → n < low → Rise low ns high → AllByRecursion (λ m. m ≢ n) ns
apart n low high [] above rise = tt
apart n low high (m ∷ ns) above rise =
    (λ same. omega (arith, same, above, rise.0), apart n (m + 1) high ns (omega (arith, above, rise.0)) rise.2)

-- other providers are as fine as before
still_fine : (t : Topology Config) (n : ℕ) (ns : List ℕ) → AllByRecursion (λ m. m ≢ n) ns
    → AllByRecursion (IsFine t) ns → AllByRecursion (IsFine (set_error t n)) ns
still_fine t n [] others fine = tt
still_fine t n (m ∷ ns) others fine =
    let same : provider_at (set_error t n) m ≡ provider_at t m =
    at-unchanged (λ (x : Provider). x.number) (λ x. record x { errored = true })
    (λ x. refl) n m others.0 t.providers in (
      subst (λ (o : Option Provider). IsSomeAnd o (λ x. x.errored ≡ false)) (sym same) fine.0,
      still_fine t n ns others.1 fine.1,
    )

-- providers without an error get one each, in order of their numbers
orphans_lose : (ns : List ℕ) (low high : ℕ) (q : QueuedTopology Config) → InOrder q → Rise low ns high
    → AllByRecursion (IsFine q.topology) ns → OnlyLoses q (fold orphan_provider q ns)
orphans_lose [] low high q order rise fine = loses_nothing q order
orphans_lose (n ∷ ns) low high q order rise fine =
    let one = orphan_loses q n order fine.0 in
    loses_twice q (orphan_provider q n) (fold orphan_provider (orphan_provider q n) ns) one
    (orphans_lose ns (n + 1) high (orphan_provider q n) one.order rise.2
    (still_fine q.topology n ns (apart n (n + 1) high ns (omega arith) rise.2) fine.1))

-- Withering

-- a geom withers
wither_loses : (q : QueuedTopology Config) (g : ℕ) → InOrder q → OnlyLoses q (wither q g)
wither_loses q g order =
    let t : Topology Config = q.topology in
    let begun : QueuedTopology Config = record q { topology = set_withering t g } in
    let its : List Provider = filter (λ (x : Provider). not x.errored) (providers_of t g) in
    let rise : Rise 0 (map (λ (x : Provider). x.number) its) t.next_provider =
    rise-kept (λ (x : Provider). x.number) (λ x. not x.errored) 0 t.next_provider (providers_of t g)
    (rise-kept (λ (x : Provider). x.number) (λ x. x.geom == g) 0 t.next_provider t.providers
    (rise-from t.next_provider (map (λ (x : Provider). x.number) t.providers) order)) in
    let fine : AllByRecursion (IsFine t) (map (λ (x : Provider). x.number) its) =
    All-from_contained (IsFine t) (map (λ (x : Provider). x.number) its) (λ n here.
    let origin = map-Contains (λ (x : Provider). x.number) its n here in
    let kept = filter-Contains (λ (x : Provider). not x.errored) (providers_of t g) origin.item origin.stands in
    let stands = filter-Contains (λ (x : Provider). x.geom == g) t.providers origin.item kept.0 in
    let found : provider_at t origin.item.number ≡ Some origin.item =
    at_contained (λ (x : Provider). provider_at t x.number ≡ Some x) t.providers origin.item
    (each_found (λ (x : Provider). x.number) t.next_provider t.providers order) stands.0 in
    let same : origin.item.number ≡ n = origin.fact in
    subst (IsFine t) same
    (subst (λ (o : Option Provider). IsSomeAnd o (λ x. x.errored ≡ false)) (sym found)
    (not-true origin.item.errored kept.1))) in
    loses_twice q begun (wither q g)
    (record { losses = omega arith; order = order; ranks = withering_ranks t g; costs = λ u. refl })
    (orphans_lose (map (λ (x : Provider). x.number) its) 0 t.next_provider begun order rise fine)

-- unless it does already
unless_loses : (q : QueuedTopology Config) (g : ℕ) → InOrder q → OnlyLoses q (wither_unless_withering q g)
unless_loses q g order = by (is_withering q.topology g) where
  -- by whether it does
  by : (b : Bool) → OnlyLoses q (if b then q else wither q g)
  by true = loses_nothing q order
  by false = wither_loses q g order

-- Events

-- a marked consumer's geom withers
spoil_one : (q : QueuedTopology Config) (c : Consumer) → InOrder q → OnlyLoses q (spoil_consumer q c)
spoil_one q c order =
    let marked : QueuedTopology Config =
    record q { topology = set_marks q.topology (λ x. x.number == c.number) false } in
    loses_twice q marked (wither_unless_withering marked c.geom)
    (record {
      losses = omega arith;
      order = order;
      ranks = marked_ranks q.topology (λ x. x.number == c.number) false;
      costs = λ u. refl;
    })
    (unless_loses marked c.geom order)

-- a spoil
spoil_loses : (q : QueuedTopology Config) (p : ℕ) → InOrder q → OnlyLoses q (spoil q p)
spoil_loses q p order =
    loses_all spoil_consumer (λ r c order. spoil_one r c order) (filter (λ c. c.spoiled)
    (attached_to q.topology p)) q
    order

-- a consumer hears that its provider is orphaned
orphan_one : (q : QueuedTopology Config) (c : Consumer) → InOrder q → OnlyLoses q (orphan_consumer q c)
orphan_one q c order = by (is_of_dev q.topology c) where
  -- by its class
  by : (b : Bool) → OnlyLoses q (if b then q else wither_unless_withering q c.geom)
  by true = loses_nothing q order
  by false = unless_loses q c.geom order

-- an orphan
orphan_loses_all : (q : QueuedTopology Config) (p : ℕ) → InOrder q → OnlyLoses q (orphan q p)
orphan_loses_all q p order =
    loses_all orphan_consumer (λ r c order. orphan_one r c order) (attached_to q.topology p) q order

-- a geom over a provider that has grown goes
outgrow_one : (granted : ℕ → Counts) (q : QueuedTopology Config) (c : Consumer) → InOrder q
    → OnlyLoses q (outgrow_consumer granted q c)
outgrow_one granted q c order = by (is_outgrown granted q.topology c) where
  -- by whether it is outgrown
  by : (b : Bool) → OnlyLoses q (if b then wither q c.geom else q)
  by true = wither_loses q c.geom order
  by false = loses_nothing q order

-- the geoms over a provider that has grown
outgrow_loses : (granted : ℕ → Counts) (q : QueuedTopology Config) (cs : List Consumer) → InOrder q
    → OnlyLoses q (fold (outgrow_consumer granted) q cs)
outgrow_loses granted q cs order =
    loses_all (outgrow_consumer granted) (λ r c order. outgrow_one granted r c order) cs q order

-- An Event lowers the measure.

-- Handles that die

-- one dies
kill_most : (w : World) (c : ℕ) → handles_of (kill_handle w c) ≤ handles_of w
kill_most w c =
    sum_mapped (λ (h : Handle). if names_number h.consumer c then record h { dead = true } else h)
    (λ (h : Handle). cond (is_some h.consumer) 1 0) (λ (h : Handle). cond (is_some h.consumer) 1 0) w.handles
    (of_each (λ (h : Handle). cond (is_some
    (if names_number h.consumer c then record h { dead = true } else h).consumer)
    1 0 ≤ cond (is_some h.consumer) 1 0) (λ h. elim (cases_Bool (names_number h.consumer c)) [
      | inl e ↦ rw e (omega arith)
      | inr e ↦ rw e (omega arith)
    ]) w.handles)

-- what is left of a world in which handles die
pub record Killed (w v : World) : Type 0 where
  pub actors : v.actors ≡ w.actors
  pub taste : v.taste ≡ w.taste
  pub handles : handles_of v ≤ handles_of w

-- some die
pub kills : (cs : List ℕ) (w : World) → Killed w (fold kill_handle w cs)
kills [] w = record { actors = refl; taste = refl; handles = omega arith }
kills (c ∷ cs) w =
    let rest = kills cs (kill_handle w c) in
    let one = kill_most w c in
    record { actors = rest.actors; taste = rest.taste; handles = omega (arith, rest.handles, one) }

-- Ranks below the limit

-- a rank that isn't at the limit is below
below_limit : (r : ℕ) → nat_le UNTASTED_RANK r ≡ false → r < UNTASTED_RANK
below_limit r short = elim (cases_lt r UNTASTED_RANK) [
  | inl less ↦ less
  | inr least ↦ (let yes : nat_le UNTASTED_RANK r ≡ true = le-leb UNTASTED_RANK r least in absurd cc)
]

-- the rank of the geom of what is tasted is below
low_by : (w : World) (p : ℕ) (o : Option (Geom Config)) → geom_of_provider w.topology p ≡ o
    → option_map_or (λ g. g.withering || nat_le UNTASTED_RANK (rank w.topology g.number)) o true ≡ false
    → option_map_or (λ g. rank w.topology g.number) o UNTASTED_RANK < UNTASTED_RANK
low_by w p None e fine = absurd cc
low_by w p (Some g) e fine =
    below_limit (rank w.topology g.number) (or_parts g.withering (nat_le UNTASTED_RANK
    (rank w.topology g.number)) fine).1

-- so
low : (w : World) (p : ℕ) → is_not_tasted (granted_in w) w.topology p ≡ false → rank_of_provider w p < UNTASTED_RANK
low w p fine =
    let one = or_parts (is_errored w.topology p) _ fine in
    let two = or_parts (option_map_or (λ g. g.withering || nat_le UNTASTED_RANK (rank w.topology g.number))
    (geom_of_provider w.topology p) true) (not ((have (granted_in w) w.topology p).w == 0)) one.1 in
    low_by w p (geom_of_provider w.topology p) refl two.0

-- the taste of a provider costs what those that it makes can cost, and 400
weight_step : (r : ℕ) → r < UNTASTED_RANK → taste_weight r ≡ 400 + 39 * taste_weight (r + 1)
weight_step r less =
    let e : UNTASTED_RANK - r ≡ suc (UNTASTED_RANK - (r + 1)) = omega arith in
    ap taste_weight_below e

-- An event

module _ (w : World) (firm : Firm w) (none : w.taste ≡ None) (e : Event) (rest : List Event)
    (queue : w.events ≡ e ∷ rest) where
  -- the world without it
  abbrev left : World
  left = record w { events = rest }

  -- what tasting could cost with it
  had : tasting_of w ≡ event_weight w e + sum_by (event_weight w) rest
  had =
      let costs : sum_by (event_weight w) w.events ≡ event_weight w e + sum_by (event_weight w) rest =
      ap (sum_by (event_weight w)) queue ∙ sum_by-cons (event_weight w) e rest in
      let nothing : taste_left w w.taste ≡ 0 = ap (taste_left w) none in
      omega (arith, costs, nothing)

  -- what could be lost with it
  lost : losses_of w ≡ losses_in (queued_of left) + cond (is_loss e) 1 0
  lost =
      let counts : count_by is_loss w.events ≡ cond (is_loss e) 1 0 + count_by is_loss rest =
      ap (count_by is_loss) queue ∙ sum_by-cons (λ x. cond (is_loss x) 1 0) e rest in
      omega (arith, counts)

  -- the numbers of providers are in order
  order : InOrder (queued_of left)
  order = firm.graph.numbers.providers

  -- after what only loses the queue costs what the rest cost
  rest_costs : (k : World) (r : QueuedTopology Config) → OnlyLoses (queued_of left) r
      → sum_by (event_weight (with_queued k r)) r.events ≡ sum_by (event_weight w) rest
  rest_costs k r loses =
      loses.costs (with_queued k r)
      ∙ weights_same (with_queued k r) w (rank_same (with_queued k r) w loses.ranks) rest

  -- an event of a loss after which is only lost
  loss_lower : (k : World) (r : QueuedTopology Config) → commands_of k ≤ commands_of w → handles_of k ≤ handles_of w
      → k.taste ≡ None → is_loss e ≡ true → OnlyLoses (queued_of left) r
      → IsLess (measure (with_queued k r)) (measure w)
  loss_lower k r a b over is loses =
      let nothing : taste_left (with_queued k r) k.taste ≡ 0 = ap (taste_left (with_queued k r)) over in
      let one : cond {A = ℕ} (is_loss e) 1 0 ≡ 1 = rw is refl in
      losses_less (with_queued k r) w a b
      (omega (arith, had, nothing, rest_costs k r loses))
      (omega (arith, lost, one, loses.losses))

  -- an offer that isn't tasted
  passed_lower : 1 ≤ event_weight w e → IsLess (measure left) (measure w)
  passed_lower some =
      let one = weights_same left w (λ q. refl) rest in
      let two : taste_left left left.taste ≡ 0 = ap (taste_left left) none in
      tasting_less left w (omega arith) (omega arith) (omega (arith, one, two, had, some))

  -- a taste begins
  begun_lower : (p : ℕ) → e ≡ events.NewProvider p → rank_of_provider w p < UNTASTED_RANK
      → IsLess (measure (begin_taste left p)) (measure w)
  begun_lower p is under =
      let v : World = begin_taste left p in
      let lives : IsSome (provider_at w.topology p) =
      subst (λ (x : Event). IsSome (provider_at w.topology (provider_of_event x))) is
      (All-contains (λ (x : Event). IsSome (provider_at w.topology (provider_of_event x))) w.events e
      firm.taste.living (subst (λ (es : List Event). Contains es e) (sym queue) (Contains-here e rest))) in
      let stands = has (provider_at w.topology p) lives in
      let ranks = (open-rises w.topology 2 p stands.item firm.graph.ranks.ranked firm.graph.parts.consumers
      (there_with_fact (λ (x : Geom Config). x.withering ≡ false) (geom_at w.topology 2) firm.graph.ranks.taste.stands)
      firm.graph.ranks.taste.no_provider stands.is).0 in
      let same = elsewhere v w 2 firm.graph.ranks.taste.no_provider (λ q. refl) ranks.same in
      let costs = weights_same v w same rest in
      let cost : taste_left v v.taste ≡ 331 + 39 * taste_weight (rank_of_provider v p + 1) = refl in
      let step : taste_weight (rank_of_provider w p) ≡ 400 + 39 * taste_weight (rank_of_provider w p + 1) =
      weight_step (rank_of_provider w p) under in
      let equal : taste_weight (rank_of_provider v p + 1) ≡ taste_weight (rank_of_provider w p + 1) =
      ap (λ (r : ℕ). taste_weight (r + 1)) (same p) in
      let was : event_weight w e ≡ taste_weight (rank_of_provider w p) = ap (event_weight w) is in
      tasting_less v w (omega arith) (omega arith) (omega (arith, costs, cost, step, equal, was, had))

  -- by whether the offer is tasted
  offer_lower : (p : ℕ) → e ≡ events.NewProvider p → (b : Bool) → is_not_tasted (granted_in left) w.topology p ≡ b
      → IsLess (measure (if b then left else begin_taste left p)) (measure w)
  offer_lower p is true test =
      let was : event_weight w e ≡ taste_weight (rank_of_provider w p) = ap (event_weight w) is in
      let some = weight_some (UNTASTED_RANK - rank_of_provider w p) in
      passed_lower (omega (arith, was, some))
  offer_lower p is false test = begun_lower p is (low left p test)

  -- a growth, after which the provider is offered or not
  grown_by : (p : ℕ) → e ≡ events.Resize p → (r : QueuedTopology Config) → OnlyLoses (queued_of left) r → (b : Bool)
      → IsLess (measure (with_queued left (if b then r else post r (events.NewProvider p)))) (measure w)
  grown_by p is r loses true =
      let v : World = with_queued left r in
      let nothing : taste_left v v.taste ≡ 0 = ap (taste_left v) none in
      let was : event_weight w e ≡ 1 + taste_weight (rank_of_provider w p) = ap (event_weight w) is in
      tasting_less v w (omega arith) (omega arith) (omega (arith, had, nothing, rest_costs left r loses, was))
  grown_by p is r loses false =
      let v : World = with_queued left (post r (events.NewProvider p)) in
      let nothing : taste_left v v.taste ≡ 0 = ap (taste_left v) none in
      let was : event_weight w e ≡ 1 + taste_weight (rank_of_provider w p) = ap (event_weight w) is in
      let more : sum_by (event_weight v) (r.events ++ events.NewProvider p ∷ [])
      ≡ sum_by (event_weight v) r.events + taste_weight (rank_of_provider v p) =
      sum_by_push (event_weight v) r.events (events.NewProvider p) in
      let costs : sum_by (event_weight v) r.events ≡ sum_by (event_weight w) rest =
      loses.costs v ∙ weights_same v w (rank_same v w loses.ranks) rest in
      let equal : taste_weight (rank_of_provider v p) ≡ taste_weight (rank_of_provider w p) =
      ap taste_weight (rank_same v w loses.ranks p) in
      tasting_less v w (omega arith) (omega arith) (omega (arith, had, nothing, more, costs, equal, was))

  -- each event
  pub done_lower : (x : Event) → e ≡ x → IsLess (measure (do_event left x)) (measure w)
  unfolding do_event
  done_lower (events.NewProvider p) is =
      offer_lower p is (is_not_tasted (granted_in left) w.topology p) refl
  done_lower (events.Spoil p) is =
      loss_lower left (spoil (queued_of left) p) (omega arith) (omega arith) none (ap is_loss is)
      (spoil_loses (queued_of left) p order)
  done_lower (events.Orphan p) is =
      let dead = kills (dying_consumers w.topology p) left in
      let k : World = fold kill_handle left (dying_consumers w.topology p) in
      let commands : commands_of k ≡ commands_of w =
      ap (λ (xs : List (List LineCommand)). sum_by (λ (cs : List LineCommand). length cs) xs) dead.actors in
      loss_lower k (orphan (queued_of left) p) (omega (arith, commands)) (omega (arith, dead.handles))
      (dead.taste ∙ none) (ap is_loss is) (orphan_loses_all (queued_of left) p order)
  done_lower (events.Resize p) is =
      let r : QueuedTopology Config =
      fold (outgrow_consumer (granted_in left)) (queued_of left) (attached_to w.topology p) in
      grown_by p is r (outgrow_loses (granted_in left) (queued_of left) (attached_to w.topology p) order)
      (is_errored r.topology p || option_map_or (λ g. g.withering) (geom_of_provider r.topology p) true)

-- A Wash that isn't early lowers the measure.

-- What stands of what is washed

-- a provider that is washed stands
abbrev Stands : Topology Config → WashWork → Type 0
Stands t (washes.Provider p) = Origin (λ (x : Provider). x.number ≡ p) t.providers
Stands t _ = Unit {0}

-- by what is found of a geom
stands_by : (t : Topology Config) (n : ℕ) (work : WashWork) (a : Option Provider) (b : Option Consumer) (c : Bool)
    → ((x : Provider) → a ≡ Some x → Contains t.providers x)
    → first_some (option_map (λ (p : Provider). washes.Provider p.number) a
    ∷ option_map (λ (c : Consumer). washes.Consumer c.number) b
    ∷ (if c then Some (washes.Geom n) else None) ∷ []) ≡ Some work → Stands t work
stands_by t n work (Some x) b c so found =
    let same : washes.Provider x.number ≡ work = cc in
    subst (Stands t) same (record { item = x; stands = so x refl; fact = refl })
stands_by t n work None (Some y) c so found =
    let same : washes.Consumer y.number ≡ work = cc in subst (Stands t) same tt
stands_by t n work None None true so found =
    let same : washes.Geom n ≡ work = cc in subst (Stands t) same tt
stands_by t n work None None false so found = absurd (let bad : ⊥ = cc in bad)

module _ (w : World) where
  -- of one geom
  geom_stands : (g : Geom Config) (work : WashWork)
      → wash_work_of (granted_in w) (is_active w) w.topology g ≡ Some work → Stands w.topology work
  geom_stands g work found =
      stands_by w.topology g.number work
      (find (λ (p : Provider). length (attached_to w.topology p.number) == 0) (providers_of w.topology g.number))
      (find (is_idle (granted_in w) (is_active w) w.topology) (consumers_of w.topology g.number))
      ((length (providers_of w.topology g.number) == 0) && (length (consumers_of w.topology g.number) == 0))
      (λ x at.
      (filter-Contains (λ (y : Provider). y.geom == g.number) w.topology.providers x
      (find-Contains (λ (p : Provider). length (attached_to w.topology p.number) == 0)
      (providers_of w.topology g.number) x at)).0)
      found

  -- of the first geom, or of the others
  first_stands : (g : Geom Config) (work : WashWork) (a b : Option WashWork)
      → (a ≡ Some work → Stands w.topology work) → (b ≡ Some work → Stands w.topology work)
      → option_or a b ≡ Some work → Stands w.topology work
  first_stands g work None b one two found = two found
  first_stands g work (Some x) b one two found = one found

  -- of some geoms
  geoms_stand : (gs : List (Geom Config)) (work : WashWork)
      → first_wash (granted_in w) (is_active w) w.topology gs ≡ Some work → Stands w.topology work
  geoms_stand [] work found = absurd (let bad : ⊥ = cc in bad)
  geoms_stand (g ∷ gs) work found =
      first_stands g work (wash_work_of (granted_in w) (is_active w) w.topology g)
      (first_wash (granted_in w) (is_active w) w.topology gs) (geom_stands g work) (geoms_stand gs work) found

  -- so
  work_stands : (work : WashWork) → wash_work w ≡ Some work → Stands w.topology work
  unfolding wash_work
  work_stands work found = geoms_stand (filter (λ (g : Geom Config). g.withering) w.topology.geoms) work found

-- What is kept

-- what is found among those that are kept was found
kept_found : {X : Type 0} (number : X → ℕ) (n m : ℕ) (xs : List X) (x : X)
    → find (λ (y : X). number y == m) (filter (λ (y : X). not (number y == n)) xs) ≡ Some x
    → find (λ (y : X). number y == m) xs ≡ Some x
kept_found {X} number n m xs x found = elim (eqb_tells m n) [
  | inl same ↦
      let kept = filter-Contains (λ (y : X). not (number y == n)) xs x
      (find-Contains (λ (y : X). number y == m) (filter (λ (y : X). not (number y == n)) xs) x found) in
      let its : number x ≡ m = number_found number (filter (λ (y : X). not (number y == n)) xs) m x found in
      let hit : (number x == n) ≡ true = eq-eqb (number x) n (its ∙ same.1) in
      absurd (let bad : false ≡ true = rw hit at kept.1 in cc)
  | inr other ↦ sym (at-kept number n m other.1 xs) ∙ found
]

-- so without a provider, a consumer or a geom
without_provider_keeps : (t : Topology Config) (p : ℕ) → Keeps t (remove_provider t p)
without_provider_keeps t p = record {
  providers = λ q x found. kept_found (λ (y : Provider). y.number) p q t.providers x found;
  geoms = λ g x found. record { other = x; found = found; config = refl };
  consumers = λ c x found. found;
}

-- without a consumer
without_consumer_keeps : (t : Topology Config) (c : ℕ) → Keeps t (remove_consumer t c)
without_consumer_keeps t c = record {
  providers = λ q x found. found;
  geoms = λ g x found. record { other = x; found = found; config = refl };
  consumers = λ d x found. kept_found (λ (y : Consumer). y.number) c d t.consumers x found;
}

-- without a geom
without_geom_keeps : (t : Topology Config) (g : ℕ) → Keeps t (remove_geom t g)
without_geom_keeps t g = record {
  providers = λ q x found. found;
  geoms = λ h x found. record {
    other = x;
    found = kept_found (λ (y : Geom Config). y.number) g h t.geoms x found;
    config = refl;
  };
  consumers = λ d x found. found;
}

-- the cost of a rank from the limit on
top_weight : (r d : ℕ) → r ≡ UNTASTED_RANK → taste_weight (r + d) ≡ 1
top_weight r d top =
    let e : UNTASTED_RANK - (r + d) ≡ 0 = omega (arith, top) in ap taste_weight_below e

-- without the item of a number that is found a list is shorter
shorter : {X : Type 0} (number : X → ℕ) (n : ℕ) (xs : List X) (x : X)
    → find (λ (y : X). number y == n) xs ≡ Some x → length (filter (λ (y : X). not (number y == n)) xs) < length xs
shorter {X} number n xs x found =
    let test : X → Bool = λ y. number y == n in
    left_out_length (λ (y : X). not (number y == n)) xs x (find-Contains test xs x found)
    (ap not (find_passes test xs x found))

module _ (w : World) (firm : Firm w) where
  -- A provider

  module _ (p : ℕ) (none : attached_to w.topology p ≡ []) where
    -- the world without it
    abbrev provider_gone : World
    provider_gone = with_queued w
        (record { topology = remove_provider w.topology p; events = without_events_of w.events p })

    -- the rank of a provider's geom, by what is found of the provider
    abbrev rank_at : Option Provider → ℕ
    rank_at o =
        option_map_or (λ (g : Geom Config). rank provider_gone.topology g.number)
        (option_and_then (λ (x : Provider). geom_at w.topology x.geom) o) UNTASTED_RANK

    -- another provider's taste costs what it cost, and that of the one that is gone nothing more
    provider_cheaper : Cheaper provider_gone w
    provider_cheaper q d = elim (eqb_tells q p) [
      | inl same ↦
          let gone : provider_at provider_gone.topology q ≡ None =
          subst (λ (n : ℕ). provider_at provider_gone.topology n ≡ None) (sym same.1)
          (removed-provider.gone w.topology p) in
          let top : rank_of_provider provider_gone q ≡ UNTASTED_RANK = ap rank_at gone in
          let least : taste_weight (rank_of_provider provider_gone q + d) ≡ 1 =
          top_weight (rank_of_provider provider_gone q) d top in
          let some = weight_some (UNTASTED_RANK - (rank_of_provider w q + d)) in
          omega (arith, least, some)
      | inr other ↦
          let found : provider_at provider_gone.topology q ≡ provider_at w.topology q =
          removed-provider.others w.topology p q other.1 in
          let ranks = removing-stay.provider w.topology p firm.graph.ranks.ranked
          firm.graph.parts.consumers none in
          let same : rank_of_provider provider_gone q ≡ rank_of_provider w q =
          rank_stays provider_gone w q (ap (option_and_then (λ (x : Provider). geom_at w.topology x.geom)) found)
          (λ g at. ranks.same g.number) in
          let equal : taste_weight (rank_of_provider provider_gone q + d) ≡ taste_weight
          (rank_of_provider w q + d) =
          ap (λ (r : ℕ). taste_weight (r + d)) same in
          omega (arith, equal)
    ]

    -- it goes
    provider_lower : Stands w.topology (washes.Provider p) → Firm provider_gone
        → IsLess (measure provider_gone) (measure w)
    provider_lower origin after =
        let queue = sum_kept (event_weight provider_gone) (event_weight w) (λ (e : Event). not
        (provider_of_event e == p))
        w.events (of_each (λ (e : Event). event_weight provider_gone e ≤ event_weight w e)
        (event_most provider_gone w provider_cheaper) w.events) in
        let taste = left_most provider_gone w provider_cheaper w.taste in
        let fine = count-kept (λ (x : Provider). not x.errored) (λ (x : Provider). not (x.number == p))
        w.topology.providers in
        let losses = count-kept is_loss (λ (e : Event). not (provider_of_event e == p)) w.events in
        let bios = now_most provider_gone w after (without_provider_keeps w.topology p) (omega arith) in
        let hit : (origin.item.number == p) ≡ true = eq-eqb origin.item.number p origin.fact in
        let fewer = left_out_length (λ (x : Provider). not (x.number == p)) w.topology.providers origin.item
        origin.stands (ap not hit) in
        parts_less provider_gone w (omega arith) (omega arith) (omega (arith, queue, taste))
        (omega (arith, fine, losses)) (omega (arith, bios)) (omega (arith, fewer))

  -- A consumer

  module _ (c : ℕ) where
    -- the world without it
    abbrev consumer_gone : World
    consumer_gone = record w { topology = remove_consumer w.topology c }

    -- it goes, where no taste is under way or to come
    consumer_lower : FoundWith (consumer_at w.topology c) (IsSpent w) → Firm consumer_gone
        → (is_some w.taste || list_any is_offer w.events) ≡ false → IsLess (measure consumer_gone) (measure w)
    consumer_lower found after late =
        let quiet = or_parts (is_some w.taste) (list_any is_offer w.events) late in
        let queue : sum_by (event_weight consumer_gone) w.events ≡ 0 = no_offers consumer_gone w.events quiet.1 in
        let over : w.taste ≡ None = none_of w.taste quiet.0 in
        let taste : taste_left consumer_gone w.taste ≡ 0 = ap (taste_left consumer_gone) over in
        let bios = now_most consumer_gone w after (without_consumer_keeps w.topology c) (omega arith) in
        let fewer = shorter (λ (x : Consumer). x.number) c w.topology.consumers found.item found.is in
        parts_less consumer_gone w (omega arith) (omega arith) (omega (arith, queue, taste)) (omega arith)
        (omega (arith, bios)) (omega (arith, fewer))

  -- A geom

  module _ (g : ℕ) (bare : IsBareGeom w g) where
    -- the world without it
    abbrev geom_gone : World
    geom_gone = record w { topology = remove_geom w.topology g }

    -- providers are of other geoms
    geoms_by : (q : ℕ) (o : Option Provider) → provider_at w.topology q ≡ o
        → option_and_then (λ (x : Provider). geom_at geom_gone.topology x.geom) o
        ≡ option_and_then (λ (x : Provider). geom_at w.topology x.geom) o
    geoms_by q None e = refl
    geoms_by q (Some x) e =
        removed-geom.others w.topology g x.geom (λ same.
        nothing_in x
        (subst (λ (ys : List Provider). Contains ys x) bare.no_provider
        (Contains-filter (λ (y : Provider). y.geom == g) w.topology.providers x
        (find-Contains (λ (y : Provider). y.number == q) w.topology.providers x e) (eq-eqb x.geom g same))))

    -- ranks stay
    geom_ranks : (q : ℕ) → rank_of_provider geom_gone q ≡ rank_of_provider w q
    geom_ranks =
        let ranks = removing-stay.geom w.topology g firm.graph.ranks.ranked firm.graph.parts.consumers
        bare.no_consumer in
        elsewhere geom_gone w g bare.no_provider (λ q. geoms_by q (provider_at w.topology q) refl)
        (λ h apart. ranks.same h)

    -- it goes
    geom_lower : Firm geom_gone → IsLess (measure geom_gone) (measure w)
    geom_lower after =
        let queue = weights_same geom_gone w geom_ranks w.events in
        let taste = left_same geom_gone w geom_ranks w.taste in
        let bios = now_most geom_gone w after (without_geom_keeps w.topology g)
        (length-kept (λ (x : Geom Config). not (x.number == g)) w.topology.geoms) in
        let fewer = shorter (λ (x : Geom Config). x.number) g w.topology.geoms bare.geom bare.found in
        parts_less geom_gone w (omega arith) (omega arith) (omega (arith, queue, taste)) (omega arith)
        (omega (arith, bios)) (omega (arith, fewer))

  -- Each work

  -- what is found goes
  work_lower : (work : WashWork) → wash_work w ≡ Some work → Stands w.topology work → CanWash w work
      → Firm (wash w work)
      → (is_of_consumer (Some work) && (is_some w.taste || list_any is_offer w.events)) ≡ false
      → IsLess (measure (wash w work)) (measure w)
  unfolding wash
  work_lower (washes.Provider p) found stands can after late = provider_lower p can stands after
  work_lower (washes.Consumer c) found stands can after late = consumer_lower c can after late
  work_lower (washes.Geom g) found stands can after late = geom_lower g can after

  -- what can be washed
  pub found_lower : (work : WashWork) → wash_work w ≡ Some work → is_early_wash w steps.Wash ≡ false
      → IsLess (measure (with_queued w (washed (queued_of w) work))) (measure w)
  unfolding wash
  found_lower work found late =
      let can : CanWash w work = found-can w firm work found in
      work_lower work found (work_stands w work found) can (washed-firm w work can firm)
      (subst (λ (o : Option WashWork). (is_of_consumer o && (is_some w.taste || list_any is_offer w.events)) ≡ false)
      found late)
