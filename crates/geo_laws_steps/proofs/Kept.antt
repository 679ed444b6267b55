-- What bios use is kept, where the graph after comes from the graph before, both meshes are firm, and the
-- bios stay.
use Rattle.std.specs.Prelude.{◌≡◌, ℕ, ◌<◌, ◌==◌, List, [], ◌∷◌, map, find, Some, Contains, option_and_then}
use Rattle.std.proofs.Common.{inl, inr, refl, sym, ◌∙◌, ap, subst, arith}
use Rattle.std.proofs.lemmas.List.Elements.{All-contains}
use Rattle.geo_model.specs.Topology.{Topology, Geom, Provider, Consumer, geom_at, provider_at, consumer_at}
use Rattle.geo_model.specs.World.{World, Config, Bio}
use Rattle.geo_model.specs.Place.{components}
use Rattle.geo_model.specs.Graph.{AreNumbers, IsInOrder}
use Rattle.geo_model.specs.Fitting.{Firm}
use Rattle.geo_laws_graph.proofs.Members.{find-Contains, Contains-map}
use Rattle.geo_laws_graph.proofs.Lists.{found_itself}
use Rattle.geo_laws_graph.proofs.Numbered.{number_found}
use Rattle.geo_laws_graph.proofs.Living.{sound-order}
use Rattle.geo_laws_life.proofs.Found.{some-with, one-found}
use Rattle.geo_laws_maps.specs.Ways.{LeadsInto, GoesDown, IsNextUnder, IsWay, IsOpen, Used}
use Rattle.geo_laws_maps.proofs.Opened.{live-open, open-down, used-down, next-inside}
use Rattle.geo_laws_steps.specs.WayLaws.{IsSameProvider, IsSameGeom, IsSameConsumer, KeepsWays}
use Rattle.geo_laws_steps.specs.Heirs.{IsOld, IsHeirGeom, IsHeirProvider, IsHeirConsumer, Inherits}

-- what is found at a number in both lists
found_both : {X : Type 0} (number : X → ℕ) (R : X → X → Type 0) → ((x y : X) → R x y → number y ≡ number x)
    → (next : ℕ) (xs ys : List X) → AreNumbers (map number xs) next
    → ((y : X) → Contains ys y → IsOld number next R xs y) → (n : ℕ) (x y : X)
    → find (λ (z : X). number z == n) xs ≡ Some x → find (λ (z : X). number z == n) ys ≡ Some y → R x y
found_both {X} number R same next xs ys are old n x y found now =
    let number_x : number x ≡ n = number_found number xs n x found in
    let number_y : number y ≡ n = number_found number ys n y now in
    let below : number x < next =
    All-contains (λ m. m < next) (map number xs) (number x) are.1
    (Contains-map number xs x (find-Contains (λ (z : X). number z == n) xs x found)) in
    elim (old y (find-Contains (λ (z : X). number z == n) ys y now)) [
      | inl new ↦ absurd (omega (arith, new, below, number_x, number_y))
      | inr from ↦
          (let here : number from.item ≡ n = sym (same from.item y from.fact) ∙ number_y in
          let at : find (λ (z : X). number z == n) xs ≡ Some from.item =
          subst (λ m. find (λ (z : X). number z == m) xs ≡ Some from.item) here
          (found_itself number next xs from.item are from.stands) in
          subst (λ z. R z y) (one-found (find (λ (z : X). number z == n) xs) from.item x at found) from.fact)
    ]

module _ (w v : World) (firm : Firm w) (after : Firm v) (T : ℕ → Type 0)
    (heir : Inherits T w.topology v.topology)
    (stay : (x : Bio) → Contains w.bios x → Contains v.bios x)
    (away : (p : ℕ) (x : Provider) → Used w p → provider_at w.topology p ≡ Some x → T x.geom → ⊥) where
  -- the graph before
  abbrev t : Topology Config
  t = w.topology

  -- and after
  abbrev u : Topology Config
  u = v.topology

  -- it stood in order
  order : IsInOrder t
  order = sound-order w firm.graph.numbers

  -- a provider in both
  provider_both : (p : ℕ) (x y : Provider) → provider_at t p ≡ Some x → provider_at u p ≡ Some y
      → IsHeirProvider T x y
  provider_both p x y found now =
      found_both (λ (z : Provider). z.number) (IsHeirProvider T) (λ a b is. is.number) t.next_provider t.providers
      u.providers order.providers heir.providers p x y found now

  -- a geom in both
  geom_both : (n : ℕ) (x y : Geom Config) → geom_at t n ≡ Some x → geom_at u n ≡ Some y → IsHeirGeom T x y
  geom_both n x y found now =
      found_both (λ (z : Geom Config). z.number) (IsHeirGeom T) (λ a b is. is.number) t.next_geom t.geoms u.geoms
      order.geoms heir.geoms n x y found now

  -- a consumer in both
  consumer_both : (c : ℕ) (x y : Consumer) → consumer_at t c ≡ Some x → consumer_at u c ≡ Some y
      → IsHeirConsumer x y
  consumer_both c x y found now =
      found_both (λ (z : Consumer). z.number) IsHeirConsumer (λ a b is. is.number) t.next_consumer t.consumers
      u.consumers order.consumers heir.consumers c x y found now

  module _ (p : ℕ) (used : Used w p) (opened : IsOpen v p) (x : Provider) (found : provider_at t p ≡ Some x)
      (g : Geom Config) (of : geom_at t x.geom ≡ Some g) where
    -- where it goes down after
    abbrev down : GoesDown u (IsOpen v) p
    down = open-down v after p opened

    -- the provider is the same
    same_provider : IsSameProvider x down.provider
    same_provider =
        let is = provider_both p x down.provider found down.found in
        record {
          number = is.number;
          geom = is.geom;
          name = is.name;
          sector = is.sector;
          size = is.size (away p x used found);
        }

    -- its geom is found at the number that it had
    geom_now : geom_at u x.geom ≡ Some down.geom
    geom_now = ap (geom_at u) (sym same_provider.geom) ∙ down.of

    -- and is the same
    same_geom : IsSameGeom g down.geom
    same_geom =
        let is = geom_both x.geom g down.geom of geom_now in
        let number : g.number ≡ x.geom = number_found (λ (z : Geom Config). z.number) t.geoms x.geom g of in
        record {
          number = is.number;
          kind = is.kind;
          config = is.config (λ touched. away p x used found (subst T number touched));
        }

    -- where a component of it leads after
    abbrev leads : (c : ℕ) → Contains (components g.config) c → LeadsInto u (IsOpen v) down.geom c
    leads c among =
        down.below c (subst (λ (k : Config). Contains (components k) c) (sym same_geom.config) among)

    -- the component is the same
    same_consumer : (c : ℕ) (among : Contains (components g.config) c) (d : Consumer) → consumer_at t c ≡ Some d
        → IsSameConsumer d (leads c among).consumer
    same_consumer c among d e =
        let is = consumer_both c d (leads c among).consumer e (leads c among).found in
        record { number = is.number; geom = is.geom; provider = is.provider }

  -- what is next under a used provider that is still open is still open
  next_open : (p q : ℕ) → Used w p → IsOpen v p → IsNextUnder t p q → IsOpen v q
  next_open p q used opened next =
      let before : GoesDown t (Used w) p = used-down w firm p used in
      let x : before.provider ≡ next.provider =
      one-found (provider_at t p) before.provider next.provider before.found next.found in
      let same : before.geom ≡ next.geom =
      one-found (geom_at t next.provider.geom) before.geom next.geom
      (subst (λ (z : Provider). geom_at t z.geom ≡ Some before.geom) x before.of) next.of in
      let was : LeadsInto t (Used w) before.geom next.component =
      before.below next.component
      (subst (λ (z : Geom Config). Contains (components z.config) next.component) (sym same) next.is) in
      let attached : was.consumer.provider ≡ Some q =
      sym (ap (option_and_then (λ (z : Consumer). z.provider)) was.found) ∙ next.attached in
      let now = leads p used opened next.provider next.found next.geom next.of next.component next.is in
      let is = same_consumer p used opened next.provider next.found next.geom next.of next.component next.is
      was.consumer
      was.found in
      subst (IsOpen v)
      (one-found now.consumer.provider now.under q now.attached (is.provider ∙ attached)) now.inside

  -- so is all that is reached
  way_open : (p : ℕ) (over : List ℕ) (q : ℕ) → Used w p → IsOpen v p → IsWay t p over q → IsOpen v q
  way_open p [] q used opened way = subst (IsOpen v) way opened
  way_open p (n ∷ over) q used opened way =
      way_open n over q (next-inside t (Used w) (used-down w firm) p n used way.0)
      (next_open p n used opened way.0) way.1

  -- and what is used
  still_open : (p : ℕ) → Used w p → IsOpen v p
  still_open p used =
      way_open used.bio.target used.under.over p
      (record { bio = used.bio; stands = used.stands; under = record { over = []; way = refl } })
      (live-open v after used.bio (stay used.bio used.stands)) used.under.way

  -- so all that is used is kept
  pub used-kept : KeepsWays (Used w) t u
  used-kept = record {
    provider = λ p x used found.
        let opened = still_open p used in
        let before : GoesDown t (Used w) p = used-down w firm p used in
        let same : before.provider ≡ x = one-found (provider_at t p) before.provider x before.found found in
        some-with (provider_at u p) (IsSameProvider x) (open-down v after p opened).provider
        (open-down v after p opened).found
        (same_provider p used opened x found before.geom
        (subst (λ (z : Provider). geom_at t z.geom ≡ Some before.geom) same before.of));
    geom = λ p x g used found of.
        let opened = still_open p used in
        some-with (geom_at u x.geom) (IsSameGeom g) (open-down v after p opened).geom
        (geom_now p used opened x found g of) (same_geom p used opened x found g of);
    consumer = λ p x g c d used found of among e.
        let opened = still_open p used in
        some-with (consumer_at u c) (IsSameConsumer d) (leads p used opened x found g of c among).consumer
        (leads p used opened x found g of c among).found (same_consumer p used opened x found g of c among d e);
  }
