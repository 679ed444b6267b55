-- Walks over some of the consumers or providers of a graph.
use Rattle.std.specs.Prelude.{◌≡◌, ◌≢◌, ℕ, zero, suc, ◌+◌, ◌<◌, ◌≤◌, ◌==◌, nat_le, Bool, List, [], ◌∷◌, map, filter, find, Some, None, Contains, IsSome, IfSome, All}
use Rattle.std.specs.Option.{option_map}
use Rattle.std.proofs.Common.{refl, sym, ◌∙◌, ap, subst, rules}
use Rattle.std.proofs.lemmas.Bool.{ne_eqb}
use Rattle.std.proofs.lemmas.List.Elements.{All-contains, All-head}
use Rattle.std.proofs.lemmas.List.Kept.{AllPairs-from_increasing}
use Rattle.geo_base.proofs.FindLists.{find-Contains, found_in}
use Rattle.geo_base.proofs.MemberLists.{Contains-here, Contains-there}
use Rattle.geo_model.specs.Topology.{Topology, Provider, Consumer, geom_at, consumer_at, provider_at}
use Rattle.geo_model.specs.Graph.{AreNumbers}
use Rattle.geo_mesh.specs.declared.records.ConsRec.{ConsRec}
use Rattle.geo_mesh.specs.declared.records.ProvRec.{ProvRec}
use Rattle.geo_mesh.specs.Topo.{TopoView}
use Rattle.geo_mesh.specs.Cells.{consumer_seen, provider_seen}
use Rattle.geo_mesh.specs.Graph.{IsSoundGraph}
use Rattle.geo_laws_graph.specs.LookupLaws.{left_from, IsStep, WalksMeetAll}
use Rattle.geo_laws_graph.proofs.Walks.{walks-meet}
use Rattle.geo_laws_counts.proofs.LimitFacts.{of_filter}
use Rattle.geo_laws_counts.proofs.Numbers.{found_of}
use Rattle.geo_access.specs.declared.order.Order.{Order}
use Rattle.geo_access.specs.Views.{IsNextConsumer, IsNextProvider, numbers_along, mark_at, order_of}

-- the next item of a walk over a part of a list
pub record IsNextItem {X : Type 0} (number : X → ℕ) (xs part : List X) (next from_number n : ℕ) : Type 0 where
  pub item : X
  pub found : find (λ y. number y == n) xs ≡ Some item
  pub left : left_from number from_number part ≡ item ∷ left_from number (n + 1) part
  pub past : from_number ≤ n
  pub known : n < next

-- it is found by its number
pub next_item : {X : Type 0} (number : X → ℕ) (keep : X → Bool) (xs : List X) (next from_number n : ℕ)
    → AreNumbers (map number xs) next
    → option_map number (find (λ y. nat_le from_number (number y)) (filter keep xs)) ≡ Some n
    → IsNextItem number xs (filter keep xs) next from_number n
next_item number keep xs next from_number n order first =
    let step : IsStep number (filter keep xs) next from_number n =
    WalksMeetAll.step walks-meet number (filter keep xs) next from_number n
    (WalksMeetAll.part walks-meet number keep xs next order) first in
    let left : Contains (left_from number from_number (filter keep xs)) step.item =
    search rules in
    let inside =
    of_filter keep xs step.item
    (of_filter (λ y. nat_le from_number (number y)) (filter keep xs) step.item left).0 in
    record {
      item = step.item;
      found =
          subst (λ m. find (λ y. number y == m) xs ≡ Some step.item) step.is
          (found_of number xs (AllPairs-from_increasing (map number xs) order.0) step.item inside.0);
      left = step.left;
      past = step.past;
      known = step.known;
    }

-- nothing is left where nothing comes next
pub consumers_end : (xs : List Consumer) (from_number : ℕ)
    → option_map (λ (y : Consumer). y.number) (find (λ y. nat_le from_number y.number) xs) ≡ None
    → left_from (λ (y : Consumer). y.number) from_number xs ≡ []
consumers_end xs from_number none = WalksMeetAll.rest walks-meet (λ (y : Consumer). y.number) xs from_number none

-- the same for providers
pub providers_end : (xs : List Provider) (from_number : ℕ)
    → option_map (λ (y : Provider). y.number) (find (λ y. nat_le from_number y.number) xs) ≡ None
    → left_from (λ (y : Provider). y.number) from_number xs ≡ []
providers_end xs from_number none = WalksMeetAll.rest walks-meet (λ (y : Provider). y.number) xs from_number none

module _ {C : Type 0} (t : Topology C) (sound : IsSoundGraph t) where
  -- the next consumer of a walk, as the look-up gives it
  pub consumer_next : (keep : Consumer → Bool) (from_number n : ℕ) (x : ConsRec)
      → option_map (λ (y : Consumer). y.number) (find (λ y. nat_le from_number y.number) (filter keep t.consumers))
      ≡ Some n
      → consumer_at t n ≡ Some (consumer_seen n x)
      → IsNextConsumer t (filter keep t.consumers) from_number n x
  consumer_next keep from_number n x first found =
      search (
        rules,
        next_item (λ (y : Consumer). y.number) keep t.consumers t.next_consumer from_number n
            sound.orderly.order.consumers first,
        All-contains (λ (c : Consumer). IsSome (geom_at t c.geom)) t.consumers (consumer_seen n x)
            sound.orderly.parts.geoms
            (find-Contains (λ (c : Consumer). c.number == n) t.consumers (consumer_seen n x) found),
        All-contains (λ (c : Consumer). IfSome c.provider (λ p. IsSome (provider_at t p))) t.consumers
            (consumer_seen n x) sound.orderly.parts.providers
            (find-Contains (λ (c : Consumer). c.number == n) t.consumers (consumer_seen n x) found),
      )

  -- and there is one
  pub consumer_some : (keep : Consumer → Bool) (from_number n : ℕ)
      → option_map (λ (y : Consumer). y.number) (find (λ y. nat_le from_number y.number) (filter keep t.consumers))
      ≡ Some n
      → consumer_at t n ≡ None → ⊥
  consumer_some keep from_number n first none =
      let next = next_item (λ (y : Consumer). y.number) keep t.consumers t.next_consumer from_number n
      sound.orderly.order.consumers first in
      let e : None ≡ Some next.item = sym none ∙ next.found in cc

  -- the same for providers
  pub provider_next : (keep : Provider → Bool) (from_number n : ℕ) (x : ProvRec)
      → option_map (λ (y : Provider). y.number) (find (λ y. nat_le from_number y.number) (filter keep t.providers))
      ≡ Some n
      → provider_at t n ≡ Some (provider_seen n x)
      → IsNextProvider t (filter keep t.providers) from_number n x
  provider_next keep from_number n x first found =
      search (
        rules,
        next_item (λ (y : Provider). y.number) keep t.providers t.next_provider from_number n
            sound.orderly.order.providers first,
      )

  -- and there is one
  pub provider_some : (keep : Provider → Bool) (from_number n : ℕ)
      → option_map (λ (y : Provider). y.number) (find (λ y. nat_le from_number y.number) (filter keep t.providers))
      ≡ Some n
      → provider_at t n ≡ None → ⊥
  provider_some keep from_number n first none =
      let next = next_item (λ (y : Provider). y.number) keep t.providers t.next_provider from_number n
      sound.orderly.order.providers first in
      let e : None ≡ Some next.item = sym none ∙ next.found in cc

-- Parts that are found by their numbers

-- a consumer of a number that none has isn't found
pub none_numbered : (n : ℕ) (xs : List Consumer) → ((x : Consumer) → Contains xs x → x.number ≢ n)
    → find (λ (x : Consumer). x.number == n) xs ≡ None
none_numbered n [] apart = refl
none_numbered n (x ∷ xs) apart =
    rw (ne_eqb x.number n (apart x (Contains-here x xs)))
    (none_numbered n xs (λ y there. apart y (Contains-there x y xs there)))

module _ {C : Type 0} (t : TopoView C) (sound : IsSoundGraph t.topology) where
  -- each that stands is found by its number
  pub provider_known : (z : Provider) → Contains t.topology.providers z → provider_at t.topology z.number ≡ Some z
  provider_known =
      found_of (λ (z : Provider). z.number) t.topology.providers
      (AllPairs-from_increasing (map (λ (z : Provider). z.number) t.topology.providers)
      sound.orderly.order.providers.0)

  pub consumer_known : (c : Consumer) → Contains t.topology.consumers c
      → find (λ (x : Consumer). x.number == c.number) t.topology.consumers ≡ Some c
  consumer_known =
      found_of (λ (x : Consumer). x.number) t.topology.consumers
      (AllPairs-from_increasing (map (λ (x : Consumer). x.number) t.topology.consumers)
      sound.orderly.order.consumers.0)

  -- what is found stands
  pub provider_stands : (q : ℕ) (z : Provider) → provider_at t.topology q ≡ Some z
      → Contains t.topology.providers z × (z.number ≡ q)
  provider_stands q z found = search (rules, found_in (λ (y : Provider). y.number == q) t.topology.providers z found)

  -- a consumer of the number at which one is found is it
  pub consumer_only : (n : ℕ) (one : Consumer) → consumer_at t.topology n ≡ Some one → (c : Consumer)
      → Contains t.topology.consumers c → c.number ≡ n → c ≡ one
  consumer_only n one found c there same = search (rules, consumer_known c there, ap (consumer_at t.topology) same)

-- the geom of a provider lives
pub offerer_lives : {C : Type 0} (t : Topology C) → IsSoundGraph t → (p : ℕ) (x : Provider)
    → provider_at t p ≡ Some x → IsSome (geom_at t x.geom)
offerer_lives t sound p x found =
    All-contains (λ (y : Provider). IsSome (geom_at t y.geom)) t.providers x sound.orderly.parts.offerers
    (find-Contains (λ (y : Provider). y.number == p) t.providers x found)

-- so does that of one that is looked at
pub seen_lives : {C : Type 0} (t : Topology C) → IsSoundGraph t → (p : ℕ) (x : ProvRec)
    → provider_at t p ≡ Some (provider_seen p x) → IsSome (geom_at t x.geom)
seen_lives t sound p x found = offerer_lives t sound p (provider_seen p x) found

-- what holds of all of some links holds of the first
pub first_link : (P : ℕ → Type 0) (next : ℕ → ℕ) (n x : ℕ) → (n ≡ 0 → ⊥) → All P (numbers_along next n x) → P x
first_link P next zero x some all = absurd (some refl)
first_link P next (suc n) x some all = All-head P x (numbers_along next n (next x)) all

-- the first geom of an order lives where all of it do
pub first_lives : {C : Type 0} (t : TopoView C) (o : Order) → (o.count ≡ 0 → ⊥)
    → All (λ x. IsSome (geom_at t.topology x)) (order_of t o) → IsSome (geom_at t.topology o.head)
first_lives t o some all = first_link (λ x. IsSome (geom_at t.topology x)) (mark_at t) o.count o.head some all
