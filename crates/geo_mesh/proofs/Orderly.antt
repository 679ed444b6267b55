-- An orderly graph stays orderly through each change of one thing.
use Rattle.std.specs.Prelude.{◌≡◌, ◌≢◌, ℕ, ◌+◌, ◌<◌, ◌≤◌, ◌^◌, ◌==◌, Bool, true, not, List, [], ◌∷◌, ◌++◌, find, Option, Some, None, All, IsSome, IsSomeAnd, false, codes}
use Rattle.std.specs.Option.{option_map}
use Rattle.std.proofs.Common.{refl, sym, ◌∙◌, ap, subst, arith, rules}
use Rattle.std.proofs.lemmas.List.Elements.{recursion_from_All, All-from_recursion, All-push, All-filter, All-nil}
use Rattle.std.proofs.lemmas.List.Folds.{find-append}
use Rattle.geo_model.specs.Kind.{Kind}
use Rattle.geo_model.specs.Kind.TheVariants as kinds
use Rattle.geo_model.specs.Words.{change_where}
use Rattle.geo_model.specs.Topology.{Topology, Geom, Provider, Consumer, geom_at, provider_at, providers_of, consumers_of, attached_to, add_geom, add_provider, add_consumer, remove_geom, remove_provider, remove_consumer, attach, detach, set_marks}
use Rattle.geo_model.specs.Graph.{IsInOrder, PartsLive, AreNumbers}
use Rattle.geo_laws_graph.specs.LookupLaws.{AddedGeomIsFound, AddedProviderIsFound, AddedConsumerIsFound, RemovedGeomIsGone, RemovedProviderIsGone, RemovedConsumerIsGone, AttachedIsFound, DetachedIsFound, MarksAreFound, PartsStayAlive}
use Rattle.geo_laws_graph.proofs.Lists.{changed, changed-keeps, find-changed, all-changed, numbers-changed}
use Rattle.geo_laws_graph.proofs.Found.{added-geom, added-provider, added-consumer, removed-geom, removed-provider, removed-consumer, attached-found, detached-found, marks-found}
use Rattle.geo_laws_graph.proofs.Living.{parts-alive, changed_parts, changed_provider-parts}
use Rattle.geo_laws_graph.proofs.Numbered.{unique}
use Rattle.std.specs.List.{AllByRecursion}
use Rattle.geo_mesh.specs.Topo.{is_provider_size, no_graph}
use Rattle.geo_mesh.specs.Graph.{IsNumber, FirstGeomsStand, IsOffer, IsOrderly}
use Rattle.geo_mesh.specs.Ranks.{rank_at}

-- a fact of each item, where some are changed and the fact stays
all_through : {X : Type 0} (P : X → Type 0) (hit : X → Bool) (change : X → X) → ((x : X) → P x → P (change x))
    → (xs : List X) → All P xs → All P (change_where hit change xs)
all_through P hit change so xs facts =
    All-from_recursion P (change_where hit change xs)
    (all-changed hit change P (λ x e fact. so x fact) xs (recursion_from_All P xs facts))

-- a fact of what there is, seen otherwise
some_through : {X : Type 0} (P : X → Type 0) (f : X → X) → ((x : X) → P x → P (f x)) → (o : Option X)
    → IsSomeAnd o P → IsSomeAnd (option_map f o) P
some_through P f so (Some x) fact = so x fact
some_through P f so None never = never

-- a fact of the first of a list stays where another item comes behind it
some_behind : {X : Type 0} (P : X → Type 0) (test : X → Bool) (xs ys : List X) → IsSomeAnd (find test xs) P
    → IsSomeAnd (find test (xs ++ ys)) P
some_behind P test xs ys fact = search (rules, find-append)

-- the number after a number, where it fits
next_number : (n : ℕ) → n + 1 < 2 ^ 64 → IsNumber (n + 1)
next_number n fits = record { some = omega arith; fits = fits }

module _ {C : Type 0} (t : Topology C) (is : IsOrderly t) where
  -- what lives goes on living
  alive : PartsStayAlive C
  alive = parts-alive

  -- with other geoms, the graph is orderly where they are
  orderly_geoms : {gs : List (Geom C)} {next : ℕ} → IsInOrder (record t { geoms = gs; next_geom = next })
      → All (λ (x : Geom C). 1 ≤ x.number) gs → IsNumber next → PartsLive (record t { geoms = gs; next_geom = next })
      → FirstGeomsStand (record t { geoms = gs; next_geom = next })
      → IsOrderly (record t { geoms = gs; next_geom = next })
  orderly_geoms order numbers next parts first = search rules

  -- so with other providers
  orderly_providers : {ps : List Provider} {next : ℕ} → IsInOrder (record t { providers = ps; next_provider = next })
      → All (λ (x : Provider). 1 ≤ x.number) ps → IsNumber next
      → PartsLive (record t { providers = ps; next_provider = next }) → All IsOffer ps
      → IsOrderly (record t { providers = ps; next_provider = next })
  orderly_providers order numbers next parts offers = search rules

  -- and with other consumers
  orderly_consumers : {cs : List Consumer} {next : ℕ} → IsInOrder (record t { consumers = cs; next_consumer = next })
      → All (λ (x : Consumer). 1 ≤ x.number) cs → IsNumber next
      → PartsLive (record t { consumers = cs; next_consumer = next })
      → IsOrderly (record t { consumers = cs; next_consumer = next })
  orderly_consumers order numbers next parts = search rules

  module _ (g : ℕ) (change : Geom C → Geom C) (number : (x : Geom C)
      → (change x).number ≡ x.number) (kind : (x : Geom C) → (change x).kind ≡ x.kind) where
    -- the graph with a geom changed
    abbrev with_geom_changed : Topology C
    with_geom_changed = record t { geoms = change_where (λ (x : Geom C). x.number == g) change t.geoms }

    -- a geom keeps its class
    class_stays : (n : ℕ) (k : Kind) → IsSomeAnd (geom_at t n) (λ x. x.kind ≡ k)
        → IsSomeAnd (geom_at with_geom_changed n) (λ x. x.kind ≡ k)
    class_stays n k stands =
        rw (find-changed (λ (x : Geom C). x.number == g) change (λ (x : Geom C). x.number == n)
        (λ x e. ap (λ m. m == n) (number x)) t.geoms)
        (some_through (λ (x : Geom C). x.kind ≡ k) (changed (λ (x : Geom C). x.number == g) change)
        (λ x was. changed-keeps (λ (x : Geom C). x.number == g) change (λ (x : Geom C). x.kind) (λ y e. kind y) x ∙ was)
        (geom_at t n) stands)

    -- a geom that is changed but keeps its number and its class
    pub orderly-geom : IsOrderly with_geom_changed
    orderly-geom =
        orderly_geoms
        (record {
          geoms = numbers-changed (λ (x : Geom C). x.number) (λ (x : Geom C). x.number == g) change (λ x e. number x)
              t.next_geom t.geoms is.order.geoms;
          providers = is.order.providers;
          consumers = is.order.consumers;
        })
        (all_through (λ (x : Geom C). 1 ≤ x.number) (λ (x : Geom C). x.number == g) change
        (λ x some. subst (λ n. 1 ≤ n) (sym (number x)) some) t.geoms is.numbers.geoms)
        is.numbers.next_geom
        (changed_parts t (λ (x : Geom C). x.number == g) change number is.parts)
        (record { dev = class_stays 1 kinds.Dev is.first.dev; taste = class_stays 2 kinds.Taste is.first.taste })

  module _ (p : ℕ) (change : Provider → Provider) (number : (x : Provider)
      → (change x).number ≡ x.number) (geom : (x : Provider) → (change x).geom ≡ x.geom) where
    -- what is offered still is, if it is the provider of the number
    offer_at : (x y : Provider) (b : Bool) → (y.number == p) ≡ b → ((y.number == p) ≡ true → y ≡ x)
        → (IsOffer x → IsOffer (change x)) → IsOffer y
        → IsOffer (changed (λ (z : Provider). z.number == p) change y)
    offer_at x y true e only so offer = rw e (subst (λ z. IsOffer z → IsOffer (change z)) (sym (only e)) so offer)
    offer_at x y false e only so offer = rw e offer

    -- so for all providers
    offers_stay : (x : Provider) → (IsOffer x → IsOffer (change x)) → (ys : List Provider)
        → AllByRecursion (λ (y : Provider). (y.number == p) ≡ true → y ≡ x) ys → AllByRecursion IsOffer ys
        → AllByRecursion IsOffer (change_where (λ (z : Provider). z.number == p) change ys)
    offers_stay x so [] only offers = tt
    offers_stay x so (y ∷ ys) only offers =
        (offer_at x y (y.number == p) refl only.0 so offers.0, offers_stay x so ys only.1 offers.1)

    -- a provider that is changed but keeps its number and its geom
    pub orderly-provider : (x : Provider) → provider_at t p ≡ Some x → (IsOffer x → IsOffer (change x))
        → IsOrderly (record t { providers = change_where (λ (y : Provider). y.number == p) change t.providers })
    orderly-provider x found so =
        orderly_providers
        (record {
          geoms = is.order.geoms;
          providers = numbers-changed (λ (y : Provider). y.number) (λ (y : Provider). y.number == p) change
              (λ y e. number y) t.next_provider t.providers is.order.providers;
          consumers = is.order.consumers;
        })
        (all_through (λ (y : Provider). 1 ≤ y.number) (λ (y : Provider). y.number == p) change
        (λ y some. subst (λ n. 1 ≤ n) (sym (number y)) some) t.providers is.numbers.providers)
        is.numbers.next_provider
        (changed_provider-parts t p change number geom is.parts)
        (All-from_recursion IsOffer (change_where (λ (y : Provider). y.number == p) change t.providers)
        (offers_stay x so t.providers
        (unique (λ (y : Provider). y.number) t.next_provider p t.providers x is.order.providers found)
        (recursion_from_All IsOffer t.providers is.offers)))

  -- consumers that are changed keep their numbers
  consumers_kept : (hit : Consumer → Bool) (change : Consumer → Consumer)
      → ((x : Consumer) → 1 ≤ x.number → 1 ≤ (change x).number)
      → All (λ (x : Consumer). 1 ≤ x.number) (change_where hit change t.consumers)
  consumers_kept hit change number =
      all_through (λ (x : Consumer). 1 ≤ x.number) hit change number t.consumers is.numbers.consumers

  -- a consumer that is attached
  pub orderly-attach : (c p : ℕ) → IsSome (provider_at t p) → IsOrderly (attach t c p)
  orderly-attach c p there =
      let law : AttachedIsFound C = attached-found in
      orderly_consumers (law.order t c p is.order)
      (consumers_kept (λ x. x.number == c) (λ x. record x { provider = Some p }) (λ x some. some))
      is.numbers.next_consumer (alive.attached t c p there is.parts)

  -- a consumer that is detached
  pub orderly-detach : (c : ℕ) → IsOrderly (detach t c)
  orderly-detach c =
      let law : DetachedIsFound C = detached-found in
      orderly_consumers (law.order t c is.order)
      (consumers_kept (λ x. x.number == c) (λ x. record x { provider = None }) (λ x some. some))
      is.numbers.next_consumer (alive.detached t c is.parts)

  -- consumers with a mark, or without
  pub orderly-set_marks : (test : Consumer → Bool) (mark : Bool) → IsOrderly (set_marks t test mark)
  orderly-set_marks test mark =
      let law : MarksAreFound C = marks-found in
      orderly_consumers (law.order t test mark is.order)
      (consumers_kept test (λ x. record x { spoiled = mark }) (λ x some. some))
      is.numbers.next_consumer (alive.marked t test mark is.parts)

  -- a geom more
  pub orderly-add_geom : (kind : Kind) (name : List ℕ) (config : C) (automatic : Bool) → t.next_geom + 1 < 2 ^ 64
      → IsOrderly (add_geom t kind name config automatic)
  orderly-add_geom kind name config automatic fits =
      let law : AddedGeomIsFound C = added-geom in
      orderly_geoms (law.order t kind name config automatic is.order)
      (All-push (λ (x : Geom C). 1 ≤ x.number) t.geoms _ is.numbers.geoms is.numbers.next_geom.some)
      (next_number t.next_geom fits) (alive.geom_added t kind name config automatic is.parts)
      (record {
        dev = some_behind (λ (x : Geom C). x.kind ≡ kinds.Dev) (λ (x : Geom C). x.number == 1) t.geoms _ is.first.dev;
        taste = some_behind (λ (x : Geom C). x.kind ≡ kinds.Taste) (λ (x : Geom C). x.number == 2) t.geoms _
            is.first.taste;
      })

  -- a provider more, of a geom other than the first two
  pub orderly-add_provider : (geom : ℕ) (name : List ℕ) (size sector : ℕ) → IsSome (geom_at t geom) → geom ≢ 1
      → geom ≢ 2 → is_provider_size size sector ≡ true
      → t.next_provider + 1 < 2 ^ 64 → IsOrderly (add_provider t geom name size sector)
  orderly-add_provider geom name size sector there not_dev not_taste sizes fits =
      let law : AddedProviderIsFound C = added-provider in
      orderly_providers (law.order t geom name size sector is.order)
      (All-push (λ (x : Provider). 1 ≤ x.number) t.providers _ is.numbers.providers is.numbers.next_provider.some)
      (next_number t.next_provider fits) (alive.provider_added t geom name size sector there is.parts)
      (All-push IsOffer t.providers _ is.offers
      (record { not_dev = not_dev; not_taste = not_taste; sizes = sizes }))

  -- a consumer more, attached to nothing
  pub orderly-add_consumer : (geom : ℕ) → IsSome (geom_at t geom) → t.next_consumer + 1 < 2 ^ 64
      → IsOrderly (add_consumer t geom None)
  orderly-add_consumer geom there fits =
      let law : AddedConsumerIsFound C = added-consumer in
      orderly_consumers (law.order t geom None is.order)
      (All-push (λ (x : Consumer). 1 ≤ x.number) t.consumers _ is.numbers.consumers is.numbers.next_consumer.some)
      (next_number t.next_consumer fits) (alive.consumer_added t geom None there tt is.parts)

  -- a geom less, other than the first two, without parts
  pub orderly-remove_geom : (g : ℕ) → g ≢ 1 → g ≢ 2 → providers_of t g ≡ [] → consumers_of t g ≡ []
      → IsOrderly (remove_geom t g)
  orderly-remove_geom g not_dev not_taste no_provider no_consumer =
      let law : RemovedGeomIsGone C = removed-geom in
      orderly_geoms (law.order t g is.order)
      (All-filter (λ (x : Geom C). not (x.number == g)) (λ (x : Geom C). 1 ≤ x.number) t.geoms is.numbers.geoms)
      is.numbers.next_geom (alive.geom_removed t g no_provider no_consumer is.parts)
      (record {
        dev = rw (law.others t g 1 (λ same. not_dev (sym same))) is.first.dev;
        taste = rw (law.others t g 2 (λ same. not_taste (sym same))) is.first.taste;
      })

  -- a provider less, to which nothing is attached
  pub orderly-remove_provider : (p : ℕ) → attached_to t p ≡ [] → IsOrderly (remove_provider t p)
  orderly-remove_provider p none =
      let law : RemovedProviderIsGone C = removed-provider in
      orderly_providers (law.order t p is.order)
      (All-filter (λ (x : Provider). not (x.number == p)) (λ (x : Provider). 1 ≤ x.number) t.providers
      is.numbers.providers)
      is.numbers.next_provider (alive.provider_removed t p none is.parts)
      (All-filter (λ (x : Provider). not (x.number == p)) IsOffer t.providers is.offers)

  -- a consumer less
  pub orderly-remove_consumer : (c : ℕ) → IsOrderly (remove_consumer t c)
  orderly-remove_consumer c =
      let law : RemovedConsumerIsGone C = removed-consumer in
      orderly_consumers (law.order t c is.order)
      (All-filter (λ (x : Consumer). not (x.number == c)) (λ (x : Consumer). 1 ≤ x.number) t.consumers
      is.numbers.consumers)
      is.numbers.next_consumer (alive.consumer_removed t c is.parts)

-- The graph with which a mesh begins is an orderly one.

-- no numbers are in order
no_numbers : (next : ℕ) → AreNumbers [] next
no_numbers next = ((λ k less. absurd (omega arith)), (λ k d less. absurd (omega arith)))

module _ {C : Type 0} where
  -- the graph of geom 1 of class DEV
  abbrev pub with_dev : C → Topology C
  with_dev dev = add_geom no_graph kinds.Dev (codes "dev") dev false

  -- and of geom 2 of class TASTE
  abbrev pub with_taste : C → C → Topology C
  with_taste dev taste = add_geom (with_dev dev) kinds.Taste (codes "taste") taste false

  -- the graph of no geom is in order
  none_in_order : IsInOrder (no_graph {C = C})
  none_in_order = record { geoms = no_numbers 1; providers = no_numbers 1; consumers = no_numbers 1 }

  -- and has no parts
  none_live : PartsLive (no_graph {C = C})
  none_live = search rules

  -- the graph with which a mesh begins is orderly
  pub orderly-first : (dev taste : C) → IsOrderly (with_taste dev taste)
  orderly-first dev taste =
      let added : AddedGeomIsFound C = added-geom in
      let alive : PartsStayAlive C = parts-alive in
      record {
        order = added.order (with_dev dev) kinds.Taste (codes "taste") taste false
            (added.order no_graph kinds.Dev (codes "dev") dev false none_in_order);
        numbers = record {
          geoms = All-push (λ (x : Geom C). 1 ≤ x.number) (with_dev dev).geoms _
              (All-push (λ (x : Geom C). 1 ≤ x.number) [] _ (All-nil (λ (x : Geom C). 1 ≤ x.number)) (omega arith))
              (omega arith);
          providers = λ k d less. absurd (omega arith);
          consumers = λ k d less. absurd (omega arith);
          next_geom = record { some = omega arith; fits = omega arith };
          next_provider = record { some = omega arith; fits = omega arith };
          next_consumer = record { some = omega arith; fits = omega arith };
        };
        parts = alive.geom_added (with_dev dev) kinds.Taste (codes "taste") taste false
            (alive.geom_added no_graph kinds.Dev (codes "dev") dev false none_live);
        first = record { dev = refl; taste = refl };
        offers = All-nil IsOffer;
      }

-- the two geoms have rank 1, and so has a geom that isn't there
pub first_ranks : (g : ℕ) → rank_at ((1, 1) ∷ (2, 1) ∷ []) g ≡ 1
first_ranks g = search rules
