-- What bios use is open, and what is below an open provider is open.
use Rattle.std.specs.Prelude.{◌≡◌, ◌≢◌, ℕ, ◌+◌, ◌<◌, ◌==◌, Bool, true, false, not, List, [], ◌∷◌, length, map, Some, Contains, IsSome, IsSomeAnd, IsTrue, option_and_then}
use Rattle.std.proofs.Common.{inl, inr, refl, sym, ◌∙◌, ap, subst, arith}
use Rattle.std.proofs.lemmas.Bool.{eq-eqb}
use Rattle.std.proofs.lemmas.List.Elements.{All-contains}
use Rattle.geo_base.specs.declared.request.Counts.{Counts}
use Rattle.geo_model.specs.Words.{is_read, names_number}
use Rattle.geo_model.specs.Topology.{Topology, Geom, Provider, Consumer, geom_at, provider_at, consumer_at, attached_to, providers_of, provider_of_consumer}
use Rattle.geo_model.specs.Demand.{have, want, no_counts, sum_counts, is_zero}
use Rattle.geo_model.specs.World.{World, Config, Bio, granted_in}
use Rattle.geo_model.specs.Place.{components}
use Rattle.geo_model.specs.Sound.{IsOfItsClass}
use Rattle.geo_model.specs.SoundBios.{IsBioInOrder, HasCountFor}
use Rattle.geo_model.specs.Steady.{HasItsComponents, has_open_provider}
use Rattle.geo_model.specs.Fitting.{Firm}
use Rattle.geo_model.proofs.DemandLemmas.{names_some}
use Rattle.geo_laws_graph.proofs.Members.{find-Contains, Contains-filter, filter-Contains, Contains-cases, Contains-here, nothing_in, has}
use Rattle.geo_laws_graph.proofs.Numbered.{any-contained, number_found}
use Rattle.geo_laws_counts.proofs.Counters.{wants_nothing}
use Rattle.geo_laws_counts.proofs.Upward.{have_is_sum}
use Rattle.geo_laws_counts.proofs.Numbers.{numbers_lead}
use Rattle.geo_laws_counts.proofs.BareParts.{none_within}
use Rattle.geo_laws_counts.proofs.Sums.{counts-same, zero-test}
use Rattle.geo_laws_life.proofs.Found.{found-with, one-found}
use Rattle.geo_laws_life.proofs.LessLooks.{components-below, middle_kind}
use Rattle.geo_laws_maps.specs.Ways.{LeadsInto, IsWays, IsNextUnder, IsWay, IsUnder, IsOpen, Used}
use Rattle.geo_laws_maps.specs.MapLaws.{LiveIsOpen, OpenGoesDown, UsedGoesDown}

-- Sums

-- where a sum is nothing, so is each part of it
part_nothing : {X : Type 0} (f : X → Counts) (xs : List X) (x : X) → Contains xs x
    → sum_counts (map f xs) ≡ no_counts
    → f x ≡ no_counts
part_nothing f [] x here e = absurd (nothing_in x here)
part_nothing f (y ∷ ys) x here e =
    let r : (f y).r + (sum_counts (map f ys)).r ≡ 0 = ap (λ (a : Counts). a.r) e in
    let w : (f y).w + (sum_counts (map f ys)).w ≡ 0 = ap (λ (a : Counts). a.w) e in
    let z : (f y).e + (sum_counts (map f ys)).e ≡ 0 = ap (λ (a : Counts). a.e) e in
    elim (Contains-cases y x ys here) [
      | inl same ↦ subst (λ v. f v ≡ no_counts) same
          (counts-same (f y) no_counts (omega arith) (omega arith) (omega arith))
      | inr rest ↦ part_nothing f ys x rest
          (counts-same (sum_counts (map f ys)) no_counts (omega arith) (omega arith) (omega arith))
    ]

module _ (w : World) (firm : Firm w) where
  -- the graph
  abbrev t : Topology Config
  t = w.topology

  -- the counts of a provider are what the consumers attached to it want together
  total : (p : ℕ) → have (granted_in w) t p ≡ sum_counts (map (want (granted_in w) t) (attached_to t p))
  total p = have_is_sum t firm.graph.ranks.ranked (numbers_lead t firm.graph.numbers.providers.0) (granted_in w) p

  -- a consumer at a provider without counts wants nothing
  wants_none : (c : Consumer) (p : ℕ) → Contains t.consumers c → c.provider ≡ Some p
      → have (granted_in w) t p ≡ no_counts → want (granted_in w) t c ≡ no_counts
  wants_none c p stands attached none =
      part_nothing (want (granted_in w) t) (attached_to t p) c
      (Contains-filter (λ (x : Consumer). names_number x.provider p) t.consumers c stands
      (subst (λ o. names_number o p ≡ true) (sym attached) (eq-eqb p p refl)))
      (sym (total p) ∙ none)

  -- a bio's count at its source
  counted : (x : Bio) (c : Consumer) → HasCountFor (granted_in w) t x c → (b : Bool) → is_read x.cmd ≡ b
      → want (granted_in w) t c ≡ no_counts → ⊥
  counted x c count true e none =
      let some : 0 < (want (granted_in w) t c).r = count.0 e in
      let r : (want (granted_in w) t c).r ≡ 0 = ap (λ (a : Counts). a.r) none in
      omega (arith, some, r)
  counted x c count false e none =
      let some : 0 < (want (granted_in w) t c).w = count.1 e in
      let r : (want (granted_in w) t c).w ≡ 0 = ap (λ (a : Counts). a.w) none in
      omega (arith, some, r)

  -- a provider to which a bio goes is open
  pub live-open : (x : Bio) → Contains w.bios x → IsOpen w x.target
  live-open x here none =
      let order : IsBioInOrder (granted_in w) t x =
      All-contains (IsBioInOrder (granted_in w) t) w.bios x firm.bios.order here in
      let s = found-with (consumer_at t x.source)
      (λ c. (c.provider ≡ Some x.target) × HasCountFor (granted_in w) t x c) order.source in
      counted x s.item s.fact.1 (is_read x.cmd) refl
      (wants_none s.item x.target
      (find-Contains (λ (z : Consumer). z.number == x.source) t.consumers s.item s.is) s.fact.0 none)

  -- something is attached to an open provider, so it stands
  open_by : (p : ℕ) → IsOpen w p → (cs : List Consumer) → attached_to t p ≡ cs → IsSome (provider_at t p)
  open_by p opened [] e = absurd (opened (none_within (granted_in w) t p e (length t.geoms)))
  open_by p opened (c ∷ cs) e =
      let kept = filter-Contains (λ (x : Consumer). names_number x.provider p) t.consumers c
      (subst (λ xs. Contains xs c) (sym e) (Contains-here c cs)) in
      subst (λ o. IsSome (option_and_then (provider_at t) o)) (names_some c.provider p kept.1)
      (All-contains (λ (x : Consumer). IsSome (option_and_then (provider_at t) x.provider)) t.consumers c
      firm.graph.attached kept.0)

  module _ (p : ℕ) (opened : IsOpen w p) (x : Provider) (found : provider_at t p ≡ Some x) (g : Geom Config)
      (of : geom_at t x.geom ≡ Some g) where
    -- the provider stands
    x_stands : Contains t.providers x
    x_stands = find-Contains (λ (z : Provider). z.number == p) t.providers x found

    -- so does its geom
    g_stands : Contains t.geoms g
    g_stands = find-Contains (λ (z : Geom Config). z.number == x.geom) t.geoms g of

    -- the geom has the number that the provider names
    g_number : g.number ≡ x.geom
    g_number = number_found (λ (z : Geom Config). z.number) t.geoms x.geom g of

    -- it is one of the geom's
    offered : Contains (providers_of t g.number) x
    offered = Contains-filter (λ (z : Provider). z.geom == g.number) t.providers x x_stands
        (eq-eqb x.geom g.number (sym g_number))

    -- and it has its number
    x_open : have (granted_in w) t x.number ≢ no_counts
    x_open none =
        opened (ap (have (granted_in w) t) (sym (number_found (λ (z : Provider). z.number) t.providers p x found))
        ∙ none)

    -- so the geom has an open provider
    in_use : IsTrue (has_open_provider (granted_in w) t g)
    in_use =
        any-contained (λ (z : Provider). not (is_zero (have (granted_in w) t z.number))) (providers_of t g.number) x
        offered (by (is_zero (have (granted_in w) t x.number)) refl) where
          -- by the test
          by : (b : Bool) → is_zero (have (granted_in w) t x.number) ≡ b
              → not (is_zero (have (granted_in w) t x.number)) ≡ true
          by true e = absurd (x_open (zero-test (have (granted_in w) t x.number) e))
          by false e = ap not e

    -- a consumer of the geom wants something, where something can be below it
    wants_some : (c : Consumer) → c.geom ≡ g.number → (n : ℕ) → Contains (components g.config) n
        → want (granted_in w) t c ≡ no_counts → ⊥
    wants_some c own n among none =
        let class : IsOfItsClass g = All-contains IsOfItsClass t.geoms g firm.graph.numbers.classes g_stands in
        let middle = middle_kind g.kind g.config class.config (components-below g.config n among) in
        x_open
        (All-contains (λ (y : Provider). have (granted_in w) t y.number ≡ no_counts) (providers_of t g.number) x
        (wants_nothing (granted_in w) t c g
        (subst (λ m. geom_at t m ≡ Some g) (sym (own ∙ g_number)) of) middle.granted
        middle.disk none)
        offered)

    -- each component leads to an open provider
    leads : (n : ℕ) → Contains (components g.config) n → LeadsInto t (IsOpen w) g n
    leads n among =
        let all = All-contains (HasItsComponents (granted_in w) t) t.geoms g firm.demand.components g_stands
        (inr in_use) in
        let c = found-with (consumer_at t n) (λ z. (z.geom ≡ g.number) × IsSome z.provider)
        (All-contains (λ m. IsSomeAnd (consumer_at t m) (λ z. (z.geom ≡ g.number) × IsSome z.provider))
        (components g.config) n all among) in
        let q = has c.item.provider c.fact.1 in
        record {
          consumer = c.item;
          found = c.is;
          own = c.fact.0;
          under = q.item;
          attached = q.is;
          inside = λ none. wants_some c.item c.fact.0 n among
              (wants_none c.item q.item
              (find-Contains (λ (z : Consumer). z.number == n) t.consumers c.item c.is) q.is none);
        }

  -- below an open provider all is open
  pub open-down : IsWays t (IsOpen w)
  open-down p opened =
      let x = has (provider_at t p) (open_by p opened (attached_to t p) refl) in
      let g = has (geom_at t x.item.geom)
      (All-contains (λ (z : Provider). IsSome (geom_at t z.geom)) t.providers x.item firm.graph.parts.providers
      (find-Contains (λ (z : Provider). z.number == p) t.providers x.item x.is)) in
      record {
        provider = x.item;
        found = x.is;
        geom = g.item;
        of = g.is;
        below = leads p opened x.item x.is g.item g.is;
      }

-- Ways

-- of a closed set, what is next under a member is a member
pub next-inside : (t : Topology Config) (U : ℕ → Type 0) → IsWays t U → (p q : ℕ) → U p → IsNextUnder t p q → U q
next-inside t U ways p q inside next =
    let down = ways p inside in
    let same : down.provider ≡ next.provider = one-found (provider_at t p) down.provider next.provider down.found
    next.found in
    let geom : down.geom ≡ next.geom =
    one-found (geom_at t next.provider.geom) down.geom next.geom
    (subst (λ (z : Provider). geom_at t z.geom ≡ Some down.geom) same down.of) next.of in
    let leads = down.below next.component
    (subst (λ (z : Geom Config). Contains (components z.config) next.component) (sym geom) next.is) in
    let attached : provider_of_consumer t next.component ≡ Some leads.under =
    ap (option_and_then (λ (z : Consumer). z.provider)) leads.found ∙ leads.attached in
    subst U (one-found (provider_of_consumer t next.component) leads.under q attached next.attached) leads.inside

-- so is what is reached downwards
pub way-inside : (t : Topology Config) (U : ℕ → Type 0) → IsWays t U → (p : ℕ) (over : List ℕ) (q : ℕ) → U p
    → IsWay t p over q → U q
way-inside t U ways p [] q inside way = subst U way inside
way-inside t U ways p (n ∷ over) q inside way =
    way-inside t U ways n over q (next-inside t U ways p n inside way.0) way.1

-- a way that goes on by one provider more
pub way-on : (t : Topology Config) (p : ℕ) (over : List ℕ) (q n : ℕ) → IsWay t p over q → IsNextUnder t q n
    → IsUnder t p n
way-on t p [] q n way next =
    record { over = n ∷ []; way = (subst (λ m. IsNextUnder t m n) (sym way) next, refl) }
way-on t p (m ∷ over) q n way next =
    let more = way-on t m over q n way.1 next in record { over = m ∷ more.over; way = (way.0, more.way) }

module _ (w : World) (firm : Firm w) where
  -- all that is used is open
  pub used-open : (p : ℕ) → Used w p → IsOpen w p
  used-open p used =
      way-inside w.topology (IsOpen w) (open-down w firm) used.bio.target used.under.over p
      (live-open w firm used.bio used.stands) used.under.way

  -- and closed downwards
  pub used-down : IsWays w.topology (Used w)
  used-down p used =
      let down = open-down w firm p (used-open p used) in
      record {
        provider = down.provider;
        found = down.found;
        geom = down.geom;
        of = down.of;
        below = λ c among.
            let leads = down.below c among in
            record {
              consumer = leads.consumer;
              found = leads.found;
              own = leads.own;
              under = leads.under;
              attached = leads.attached;
              inside = record {
                bio = used.bio;
                stands = used.stands;
                under = way-on w.topology used.bio.target used.under.over p leads.under used.under.way (record {
                  provider = down.provider;
                  found = down.found;
                  geom = down.geom;
                  of = down.of;
                  component = c;
                  is = among;
                  attached = ap (option_and_then (λ (z : Consumer). z.provider)) leads.found ∙ leads.attached;
                });
              };
            };
      }

-- so say all
pub live_is_open : LiveIsOpen
live_is_open w x firm here = live-open w firm x here

-- and of open providers
pub open_goes_down : OpenGoesDown
open_goes_down w firm = open-down w firm

-- and of those that are used
pub used_goes_down : UsedGoesDown
used_goes_down = record { opened = λ w p firm used. used-open w firm p used; ways = λ w firm. used-down w firm }
