-- The consumers of a new geom, one after another: what they leave as it is, and what is found then.
use Rattle.std.specs.Prelude.{◌≡◌, ◌≢◌, ◌⊎◌, ℕ, ◌+◌, ◌≤◌, ◌==◌, Bool, true, false, List, [], ◌∷◌, map, Some, Contains, IsSome}
use Rattle.std.specs.List.{AllByRecursion}
use Rattle.std.specs.Option.{option_map_or}
use Rattle.std.proofs.Common.{inl, inr, refl, sym, ◌∙◌, ap, subst, arith}
use Rattle.std.proofs.lemmas.Bool.{eqb-true, eq-eqb, ne_eqb}
use Rattle.std.proofs.lemmas.List.Elements.{Contains-push_cases}
use Rattle.geo_base.specs.declared.kind.Kind.{Kind}
use Rattle.geo_base.specs.declared.kind.Kind.TheVariants as kinds
use Rattle.geo_base.specs.declared.request.Counts.{Counts}
use Rattle.geo_model.specs.Words.{is_kind}
use Rattle.geo_model.specs.Topology.{Topology, Geom, Provider, Consumer, geom_at, provider_at, consumer_at, providers_of, consumers_of, add_consumer}
use Rattle.geo_model.specs.Demand.{want, want_of_kind, have, no_counts}
use Rattle.geo_model.specs.World.{Config}
use Rattle.geo_model.specs.Graph.{IsInOrder, PartsLive}
use Rattle.geo_laws_graph.proofs.Members.{Contains-here, Contains-there}
use Rattle.geo_laws_graph.proofs.Found.{added-consumer}
use Rattle.geo_laws_graph.proofs.Living.{found-before, parts-alive}
use Rattle.geo_laws_graph.proofs.Opens.{over}
use Rattle.geo_laws_counts.specs.CountWords.{DemandStays, AnyConsumer}
use Rattle.geo_laws_counts.proofs.Stays.{consumer_came}
use Rattle.geo_laws_life.proofs.Found.{some-there}
use Rattle.geo_laws_life.proofs.Less.{demand-trans}
use Rattle.geo_laws_making.specs.MakingLaws.{below_new}
pub use Rattle.geo_base.proofs.Tests.{from_false_true as false_true}

-- a new consumer: the provider to which it is attached, and its geom
pub record IsNewOne (n next : ℕ) (ps : List Provider) (c : Consumer) : Type 0 where
  pub below : Provider
  pub here : Contains ps below
  pub at : below_new next ps c.number ≡ Some below
  pub geom : c.geom ≡ n
  pub attached : c.provider ≡ Some below.number

-- numbers below the first are none of theirs, by whether it is the first
low_by : (n : ℕ) (p : Provider) (ps : List Provider) (c : ℕ) (q : Provider) → below_new n (p ∷ ps) c ≡ Some q
    → (below_new (n + 1) ps c ≡ Some q → n + 1 ≤ c) → (b : Bool) → (c == n) ≡ b → n ≤ c
low_by n p ps c q e low true first = let same = eqb-true c n first in omega arith
low_by n p ps c q e low false other =
    let rest : below_new (n + 1) ps c ≡ Some q = rw other at e in
    let more : n + 1 ≤ c = low rest in
    omega arith

-- so none is lower
pub below-from : (n : ℕ) (ps : List Provider) (c : ℕ) (q : Provider) → below_new n ps c ≡ Some q → n ≤ c
below-from n [] c q e = absurd (let no : ⊥ = cc in no)
below-from n (p ∷ ps) c q e = low_by n p ps c q e (below-from (n + 1) ps c q) (c == n) refl

-- the first of them, and the others
pub below-here : (n : ℕ) (p : Provider) (ps : List Provider) (c : ℕ) → c ≡ n → below_new n (p ∷ ps) c ≡ Some p
below-here n p ps c same = rw (eq-eqb c n same) refl

-- those behind it
pub below-there : (n : ℕ) (p : Provider) (ps : List Provider) (c : ℕ) (q : Provider) → below_new (n + 1) ps c
    ≡ Some q
    → below_new n (p ∷ ps) c ≡ Some q
below-there n p ps c q e =
    let low = below-from (n + 1) ps c q e in
    rw (ne_eqb c n (λ same. omega arith)) e

-- what is below the first is the first provider
first_of : (n : ℕ) (p : Provider) (ps : List Provider) (c : ℕ) (q : Provider) → below_new n (p ∷ ps) c ≡ Some q
    → (c == n) ≡ true → p ≡ q
first_of n p ps c q e first = let is : Some p ≡ Some q = rw first at e in cc

-- what is below another one is below it without the first
rest_of : (n : ℕ) (p : Provider) (ps : List Provider) (c : ℕ) (q : Provider) → below_new n (p ∷ ps) c ≡ Some q
    → (c == n) ≡ false → below_new (n + 1) ps c ≡ Some q
rest_of n p ps c q e other = rw other at e

-- what is below one of them is among the providers, by whether it is the first
among_by : (n : ℕ) (p : Provider) (ps : List Provider) (c : ℕ) (q : Provider) → below_new n (p ∷ ps) c ≡ Some q
    → (below_new (n + 1) ps c ≡ Some q → Contains ps q) → (b : Bool) → (c == n) ≡ b → Contains (p ∷ ps) q
among_by n p ps c q e among true first = subst (Contains (p ∷ ps)) (first_of n p ps c q e first)
    (Contains-here p ps)
among_by n p ps c q e among false other = Contains-there p q ps (among (rest_of n p ps c q e other))

-- so it is among them
pub below-among : (n : ℕ) (ps : List Provider) (c : ℕ) (q : Provider) → below_new n ps c ≡ Some q → Contains ps q
below-among n [] c q e = absurd (let no : ⊥ = cc in no)
below-among n (p ∷ ps) c q e = among_by n p ps c q e (below-among (n + 1) ps c q) (c == n) refl

-- a consumer of the geom, attached to a provider
abbrev pub attached_one : ℕ → ℕ → Provider → Consumer
attached_one n c q = record { number = c; geom = n; provider = Some q.number; spoiled = false }

module _ (n : ℕ) where
  -- geoms, providers and consumers before stay
  pub over-geoms : (ps : List Provider) (t : Topology Config) → (over n t ps).geoms ≡ t.geoms
  over-geoms [] t = refl
  over-geoms (p ∷ ps) t = over-geoms ps (add_consumer t n (Some p.number))

  -- so the providers
  pub over-providers : (ps : List Provider) (t : Topology Config) → (over n t ps).providers ≡ t.providers
  over-providers [] t = refl
  over-providers (p ∷ ps) t = over-providers ps (add_consumer t n (Some p.number))

  -- a consumer that was found is found
  pub over-found : (ps : List Provider) (t : Topology Config) (c : ℕ) (d : Consumer) → consumer_at t c ≡ Some d
      → consumer_at (over n t ps) c ≡ Some d
  over-found [] t c d e = e
  over-found (p ∷ ps) t c d e =
      over-found ps (add_consumer t n (Some p.number)) c d
      (found-before (λ (x : Consumer). x.number == c) t.consumers _ d e)

  -- so is a new one, by whether it is the first
  new_by : (p : Provider) (ps : List Provider) (t : Topology Config) (c : ℕ) (q : Provider) → IsInOrder t
      → below_new t.next_consumer (p ∷ ps) c ≡ Some q
      → (below_new (t.next_consumer + 1) ps c ≡ Some q
      → consumer_at (over n (add_consumer t n (Some p.number)) ps) c ≡ Some (attached_one n c q))
      → (b : Bool) → (c == t.next_consumer) ≡ b
      → consumer_at (over n (add_consumer t n (Some p.number)) ps) c ≡ Some (attached_one n c q)
  new_by p ps t c q order e rest true first =
      let u : Topology Config = add_consumer t n (Some p.number) in
      let same : p ≡ q = first_of t.next_consumer p ps c q e first in
      let number : t.next_consumer ≡ c = sym (eqb-true c t.next_consumer first) in
      over-found ps u c (attached_one n c q)
      (subst (λ m. consumer_at u m ≡ Some (attached_one n m q)) number
      (subst (λ (z : Provider). consumer_at u t.next_consumer ≡ Some (attached_one n t.next_consumer z)) same
      (added-consumer.new t n (Some p.number) order)))
  new_by p ps t c q order e rest false other = rest (rest_of t.next_consumer p ps c q e other)

  -- so for each
  pub over-new : (ps : List Provider) (t : Topology Config) (c : ℕ) (q : Provider) → IsInOrder t
      → below_new t.next_consumer ps c ≡ Some q → consumer_at (over n t ps) c ≡ Some (attached_one n c q)
  over-new [] t c q order e = absurd (let no : ⊥ = cc in no)
  over-new (p ∷ ps) t c q order e =
      new_by p ps t c q order e
      (over-new ps (add_consumer t n (Some p.number)) c q (added-consumer.order t n (Some p.number) order))
      (c == t.next_consumer) refl

  -- a consumer was there before, or is one of the new ones
  pub over-cases : (ps : List Provider) (t : Topology Config) (c : Consumer) → Contains (over n t ps).consumers c
      → Contains t.consumers c ⊎ IsNewOne n t.next_consumer ps c
  over-cases [] t c here = inl here
  over-cases (p ∷ ps) t c here =
      elim (over-cases ps (add_consumer t n (Some p.number)) c here) [
        | inl old ↦
            elim (Contains-push_cases t.consumers _ c old) [
              | inl before ↦ inl before
              | inr first ↦
                  inr (record {
                    below = p;
                    here = Contains-here p ps;
                    at = below-here t.next_consumer p ps c.number (ap (λ (z : Consumer). z.number) (sym first));
                    geom = ap (λ (z : Consumer). z.geom) (sym first);
                    attached = ap (λ (z : Consumer). z.provider) (sym first);
                  })
            ]
        | inr new ↦
            inr (record {
              below = new.below;
              here = Contains-there p new.below ps new.here;
              at = below-there t.next_consumer p ps c.number new.below new.at;
              geom = new.geom;
              attached = new.attached;
            })
      ]

  -- other geoms have the consumers that they had
  pub over-others : (ps : List Provider) (t : Topology Config) (m : ℕ) → m ≢ n
      → consumers_of (over n t ps) m ≡ consumers_of t m
  over-others [] t m apart = refl
  over-others (p ∷ ps) t m apart =
      over-others ps (add_consumer t n (Some p.number)) m apart
      ∙ added-consumer.others_of t n (Some p.number) m apart

  -- the lists are in order
  pub over-order : (ps : List Provider) (t : Topology Config) → IsInOrder t → IsInOrder (over n t ps)
  over-order [] t order = order
  over-order (p ∷ ps) t order = over-order ps (add_consumer t n (Some p.number))
      (added-consumer.order t n (Some p.number) order)

  -- what the parts name lives
  pub over-live : (ps : List Provider) (t : Topology Config) → IsSome (geom_at t n)
      → AllByRecursion (λ (p : Provider). provider_at t p.number ≡ Some p) ps → PartsLive t
      → PartsLive (over n t ps)
  over-live [] t there found live = live
  over-live (p ∷ ps) t there found live =
      over-live ps (add_consumer t n (Some p.number)) there found.1
      (parts-alive.consumer_added t n (Some p.number) there (some-there (provider_at t p.number) p found.0) live)

-- a consumer of a class other than DEV and TASTE wants nothing where its geom has no providers
none_wanted : (kind : Kind) (granted : Counts) → is_kind kind kinds.Dev ≡ false → is_kind kind kinds.Taste ≡ false
    → want_of_kind kind [] granted ≡ no_counts
none_wanted kinds.Dev granted dev taste = false_true (sym dev)
none_wanted kinds.Taste granted dev taste = false_true (sym taste)
none_wanted _ granted dev taste = refl

-- so of any consumer of such a geom
quiet_one : (granted : ℕ → Counts) (t : Topology Config) (c : Consumer) (g : Geom Config)
    → geom_at t c.geom ≡ Some g
    → providers_of t g.number ≡ [] → is_kind g.kind kinds.Dev ≡ false → is_kind g.kind kinds.Taste ≡ false
    → want granted t c ≡ no_counts
quiet_one granted t c g found none dev taste =
    ap (λ o. option_map_or (λ (x : Geom Config). want_of_kind x.kind
    (map (λ (y : Provider). have granted t y.number) (providers_of t x.number)) (granted c.number)) o no_counts)
    found
    ∙ ap (λ ys. want_of_kind g.kind (map (λ (y : Provider). have granted t y.number) ys) (granted c.number)) none
    ∙ none_wanted g.kind (granted c.number) dev taste

-- demand stays where it is
pub stays : (granted : ℕ → Counts) (t : Topology Config) → DemandStays granted t granted t AnyConsumer
stays granted t = record { haves = λ p. refl; wants = λ c any. refl; exclusive = λ so. so; limit = λ so. so }

-- new consumers of a geom without providers change no demand
pub over-demand : (granted : ℕ → Counts) (n : ℕ) (g : Geom Config) → g.number ≡ n → is_kind g.kind kinds.Dev ≡ false
    → is_kind g.kind kinds.Taste ≡ false → (ps : List Provider) (t : Topology Config) → geom_at t n ≡ Some g
    → providers_of t n ≡ [] → DemandStays granted t granted (over n t ps) AnyConsumer
over-demand granted n g number dev taste [] t found none = stays granted t
over-demand granted n g number dev taste (p ∷ ps) t found none =
    demand-trans granted t (add_consumer t n (Some p.number)) (over n (add_consumer t n (Some p.number)) ps)
    (consumer_came granted t n (Some p.number) (λ some.
    quiet_one granted t (record {
      number = t.next_consumer;
      geom = n;
      provider = Some p.number;
      spoiled = false;
    }) g found
    (ap (providers_of t) number ∙ none) dev taste))
    (over-demand granted n g number dev taste ps (add_consumer t n (Some p.number)) found none)
