-- A graph that has come to less: what it is, what makes it so, and what is found in it.
use Rattle.std.specs.Prelude.{Bool, true, false, ◌≡◌, ℕ, Some, IsSome, List, Option, filter, ◌==◌, None, Contains, ◌+◌, ◌⊎◌, [], ◌∷◌, length, find, if◌then◌else◌, All, IfSome, option_and_then, ◌<◌, ◌||◌, map, IsSomeAnd, IsTrue}
use Rattle.std.proofs.Common.{inl, refl, sym, ◌∙◌, ap, subst, arith, inr, get_or}
use Rattle.std.proofs.lemmas.Bool.{eqb-true, eq-eqb}
use Rattle.std.proofs.lemmas.List.Elements.{All-contains, Contains-get_or}
use Rattle.std.specs.List.{enumerate_from}
use Rattle.geo_model.specs.Counts.{Counts}
use Rattle.geo_model.specs.Topology.{Topology, Geom, Provider, Consumer, consumer_at, consumers_of, providers_of, set_error, set_withering, set_marks, note_started, geom_at, provider_at, geom_of_provider}
use Rattle.geo_model.specs.World.{World, Config, Taste, granted_in, Nothing, Disk, Bio, children_among, is_sent, is_busy}
use Rattle.geo_model.specs.Graph.{IsInOrder}
use Rattle.geo_model.specs.Fitting.{Firm}
use Rattle.geo_model.specs.Sound.{HasTasteConsumer, IsTasting, fits_kind}
use Rattle.geo_model.specs.declared.step.Event.{Event}
use Rattle.geo_model.proofs.Options.{is_some-map}
use Rattle.geo_model.specs.Words.{change_where, is_kind, is_granted_kind, is_read, is_flush}
use Rattle.geo_model.proofs.Tests.{from_false_true}
use Rattle.geo_model.specs.Kind.{Kind}
use Rattle.geo_model.specs.Kind.TheVariants as kinds
use Rattle.geo_model.specs.Demand.{have, want, no_counts}
use Rattle.geo_model.specs.Bios.{disk_at, PieceTarget, piece_targets}
use Rattle.geo_model.specs.Place.{component, components, disk_of}
use Rattle.geo_model.specs.SoundBios.{IsRangeInside, HasCountFor, IsBioInOrder, shape_of_child, shape_of_piece, HasItsPieces, IsFamilyInOrder, DisksHold}
use Rattle.geo_laws_graph.proofs.Lists.{found_itself, changed, find-changed, length-changed}
use Rattle.geo_laws_graph.proofs.Members.{filter-Contains, Contains-cases, Contains-here, Contains-there, nothing_in, has, find-Contains, Contains-filter}
use Rattle.geo_laws_graph.proofs.Living.{sound-order, steady-parts, parts-alive}
use Rattle.geo_laws_graph.proofs.Found.{error-found, withering-found, marks-found, start-found}
use Rattle.geo_laws_graph.specs.RankChangeLaws.{IsOther}
use Rattle.geo_laws_graph.proofs.RankChanges.{plain-stay}
use Rattle.geo_laws_graph.proofs.Holding.{sound-ranks}
use Rattle.geo_laws_graph.proofs.Classes.{bare_config}
use Rattle.geo_laws_graph.proofs.Numbered.{number_found}
use Rattle.geo_laws_counts.specs.CountWords.{DemandStays, AnyConsumer}
use Rattle.geo_laws_counts.proofs.Unseen.{unseen_error, unseen_withering, unseen_marks, unseen_started}
use Rattle.geo_laws_counts.proofs.Counters.{wants_nothing}
use Rattle.geo_laws_counts.proofs.LimitFacts.{all_of}
use Rattle.geo_laws_life.specs.LessLaws.{ComesFrom, IsGeomOf, IsProviderOf, IsConsumerOf, IsLess, IsSpent}
use Rattle.geo_laws_life.specs.EffectLaws.{ChangesMakeLess}
use Rattle.geo_laws_life.proofs.Found.{at-found, one-found, From, from-found, FoundWith, found-with, some-with, at-some}

-- a world with another graph and another queue
abbrev pub remade : World → Topology Config → List Event → World
remade w u queue = record w { topology = u; events = queue }

-- demand that stays and stays again has stayed
pub demand-trans : (granted : ℕ → Counts) (t u v : Topology Config) → DemandStays granted t granted u AnyConsumer
    → DemandStays granted u granted v AnyConsumer → DemandStays granted t granted v AnyConsumer
demand-trans granted t u v first second = record {
  haves = λ p. second.haves p ∙ first.haves p;
  wants = λ c any. second.wants c any ∙ first.wants c any;
  exclusive = λ so. second.exclusive (first.exclusive so);
  limit = λ so. second.limit (first.limit so);
}

-- a geom, a provider and a consumer stay what they are
pub geom-self : (x : Geom Config) → IsGeomOf x x
geom-self x = record { same = refl; withering = λ so. so }

-- so a provider
pub provider-self : (x : Provider) → IsProviderOf x x
provider-self x = record { same = refl; errored = λ so. so }

-- and a consumer
pub consumer-self : (x : Consumer) → IsConsumerOf x x
consumer-self x = record { same = refl }

-- the numbers stay
pub geom-number : (x y : Geom Config) → IsGeomOf x y → y.number ≡ x.number
geom-number x y is = ap (λ (z : Geom Config). z.number) is.same

-- so that of a provider
pub provider-number : (x y : Provider) → IsProviderOf x y → y.number ≡ x.number
provider-number x y is = ap (λ (z : Provider). z.number) is.same

-- and that of a consumer
consumer-number : (x y : Consumer) → IsConsumerOf x y → y.number ≡ x.number
consumer-number x y is = ap (λ (z : Consumer). z.number) is.same

-- where the consumer found was there, it is spent or stays
found-there : (u : Topology Config) (n : ℕ) (x : Consumer) → consumer_at u n ≡ Some x → IsSome (consumer_at u n)
found-there u n x e = subst (λ z. IsSome z) (sym e) refl

-- what is kept of a list comes from it
pub kept-from : {X : Type 0} (R : X → X → Type 0) → ((x : X) → R x x) → (keep : X → Bool) (xs : List X) (y : X)
    → Contains (filter keep xs) y → ComesFrom R xs y
kept-from R self keep xs y here = record { item = y; stands = (filter-Contains keep xs y here).0; fact = self y }

-- a firm world's graph is one that has come to less by nothing
pub less-self : (w : World) → Firm w → IsLess w w.topology
less-self w firm = record {
  order = order;
  ranks = firm.graph.ranks;
  lower = λ g. omega arith;
  demand = record { haves = λ p. refl; wants = λ c any. refl; exclusive = λ so. so; limit = λ so. so };
  live = steady-parts w.topology firm.graph.parts firm.graph.attached;
  geoms = λ y here. record { item = y; stands = here; fact = geom-self y };
  providers = λ y here. record { item = y; stands = here; fact = provider-self y };
  consumers = λ y here. record { item = y; stands = here; fact = consumer-self y };
  fewer = λ g. omega arith;
  stay = λ x here. inl (found-there w.topology x.number x
      (found_itself (λ (y : Consumer). y.number) w.topology.next_consumer w.topology.consumers x order.consumers here));
  tasting = firm.handles.taste;
}
  where
    order : IsInOrder w.topology
    order = sound-order w firm.graph.numbers

-- where TASTE has the consumers that it had, the taste has its consumer
pub tasting_stays : (t u : Topology Config) → consumers_of u 2 ≡ consumers_of t 2 → (o : Option Taste)
    → HasTasteConsumer t o → HasTasteConsumer u o
tasting_stays t u same None is = same ∙ is
tasting_stays t u same (Some s) is = record {
  consumer = is.consumer;
  alone = same ∙ is.alone;
  number = is.number;
  attached = is.attached;
}

-- the taste's consumer, where consumers are the same
pub same_tasting : (t u : Topology Config) → u.consumers ≡ t.consumers → (o : Option Taste) → HasTasteConsumer t o
    → HasTasteConsumer u o
same_tasting t u e = tasting_stays t u (ap (filter (λ (x : Consumer). x.geom == 2)) e)

-- a geom that doesn't wither didn't before
pub upright-before : (x y : Geom Config) → IsGeomOf x y → (b : Bool) → x.withering ≡ b → y.withering ≡ false
    → x.withering ≡ false
upright-before x y is true e stands =
    let no : true ≡ false = sym (is.withering e) ∙ stands in absurd (let bad : ⊥ = cc in bad)
upright-before x y is false e stands = e

-- The changes of one thing by which a graph comes to less.

-- where the members of a list come from in which some items are changed
pub changed-from : {X : Type 0} (hit : X → Bool) (change : X → X) (R : X → X → Type 0)
    → ((x y : X) → R x y → R x (change y)) → (xs ys : List X) → ((y : X) → Contains ys y → ComesFrom R xs y) → (y : X)
    → Contains (change_where hit change ys) y → ComesFrom R xs y
changed-from hit change R more xs [] come y here = absurd (nothing_in y here)
changed-from {X} hit change R more xs (z ∷ ys) come y here =
    elim (Contains-cases (changed hit change z) y (change_where hit change ys) here) [
      | inl same ↦
          (let o = come z (Contains-here z ys) in
          record { item = o.item; stands = o.stands; fact = subst (R o.item) same (by o.item o.fact (hit z)) })
      | inr rest ↦ changed-from hit change R more xs ys (λ v among. come v (Contains-there z v ys among)) y rest
    ]
  where
    -- changed or not
    by : (x : X) → R x z → (b : Bool) → R x (if b then change z else z)
    by x fact true = more x z fact
    by x fact false = fact

-- what is found is still found where items are changed
pub changed-there : {X : Type 0} (hit : X → Bool) (change : X → X) (test : X → Bool)
    → ((x : X) → hit x ≡ true → test (change x) ≡ test x)
    → (xs : List X) → IsSome (find test xs) → IsSome (find test (change_where hit change xs))
changed-there hit change test same xs there =
    subst (λ o. IsSome o) (sym (find-changed hit change test same xs))
    (is_some-map (changed hit change) (find test xs) ∙ there)

module _ (w : World) (u : Topology Config) (less : IsLess w u) where
  -- an error at a provider
  pub less-error : (p : ℕ) → IsLess w (set_error u p)
  less-error p = record {
    order = error-found.order u p less.order;
    ranks = sound-ranks.errored u p less.ranks;
    lower = λ g. omega (arith, (plain-stay.error u p).same g, less.lower g);
    demand = demand-trans (granted_in w) w.topology u (set_error u p) less.demand (unseen_error (granted_in w) u p);
    live = parts-alive.errored u p less.live;
    geoms = less.geoms;
    providers = changed-from (λ (x : Provider). x.number == p) (λ x. record x { errored = true }) IsProviderOf
        (λ x y is. record { same = ap (λ (v : Provider). record v { errored = true }) is.same; errored = λ so. refl })
        w.topology.providers u.providers less.providers;
    consumers = less.consumers;
    fewer = λ g.
        let same = ap (λ (ps : List Provider). length ps) (error-found.of u p g)
        ∙ length-changed (λ (x : Provider). x.number == p) (λ x. record x { errored = true }) (providers_of u g) in
        omega (arith, same, less.fewer g);
    stay = less.stay;
    tasting = same_tasting u (set_error u p) refl w.taste less.tasting;
  }

  -- a geom that isn't DEV or TASTE withers
  pub less-withering : (g : ℕ) → IsOther g → IsLess w (set_withering u g)
  less-withering g other = record {
    order = withering-found.order u g less.order;
    ranks = sound-ranks.withering u g other less.ranks;
    lower = λ h. omega (arith, (plain-stay.withering u g).same h, less.lower h);
    demand = demand-trans (granted_in w) w.topology u (set_withering u g) less.demand
        (unseen_withering (granted_in w) u g);
    live = parts-alive.withering u g less.live;
    geoms = changed-from (λ (x : Geom Config). x.number == g) (λ x. record x { withering = true }) IsGeomOf
        (λ x y is. record {
          same = ap (λ (v : Geom Config). record v { withering = true }) is.same;
          withering = λ so. refl;
        }) w.topology.geoms u.geoms less.geoms;
    providers = less.providers;
    consumers = less.consumers;
    fewer = less.fewer;
    stay = less.stay;
    tasting = same_tasting u (set_withering u g) refl w.taste less.tasting;
  }

  -- one more started request at a geom
  pub less-started : (g : ℕ) → IsLess w (note_started u g)
  less-started g = record {
    order = start-found.order u g less.order;
    ranks = sound-ranks.started u g less.ranks;
    lower = λ h. omega (arith, (plain-stay.started u g).same h, less.lower h);
    demand = demand-trans (granted_in w) w.topology u (note_started u g) less.demand
        (unseen_started (granted_in w) u g);
    live = parts-alive.started u g less.live;
    geoms = changed-from (λ (x : Geom Config). x.number == g) (λ x. record x { started = x.started + 1 }) IsGeomOf
        (λ x y is. record {
          same = ap (λ (v : Geom Config). record v { started = v.started + 1 }) is.same;
          withering = is.withering;
        }) w.topology.geoms u.geoms less.geoms;
    providers = less.providers;
    consumers = less.consumers;
    fewer = less.fewer;
    stay = less.stay;
    tasting = same_tasting u (note_started u g) refl w.taste less.tasting;
  }

  -- a consumer that stays, with a mark or without
  marked_there : (test : Consumer → Bool) (mark : Bool) (x : Consumer) → IsSome (consumer_at u x.number) ⊎ IsSpent w x
      → IsSome (consumer_at (set_marks u test mark) x.number) ⊎ IsSpent w x
  marked_there test mark x (inl there) =
      inl (changed-there test (λ (y : Consumer). record y { spoiled = mark }) (λ (y : Consumer). y.number == x.number)
      (λ y e. refl) u.consumers there)
  marked_there test mark x (inr spent) = inr spent

  -- the taste's consumer, with a mark or without
  marked_tasting : (test : Consumer → Bool) (mark : Bool) (s : Taste) → IsTasting u s
      → IsTasting (set_marks u test mark) s
  marked_tasting test mark s is = record {
    consumer = changed test (λ (y : Consumer). record y { spoiled = mark }) is.consumer;
    alone = marks-found.of u test mark 2 ∙ ap (change_where test (λ (y : Consumer). record y { spoiled = mark }))
        is.alone;
    number = number (test is.consumer) ∙ is.number;
    attached = provider (test is.consumer) ∙ is.attached;
  }
    where
      -- its number stays
      number : (b : Bool) → (if b then record is.consumer { spoiled = mark } else is.consumer).number
          ≡ is.consumer.number
      number true = refl
      number false = refl

      -- and its provider
      provider : (b : Bool) → (if b then record is.consumer { spoiled = mark } else is.consumer).provider
          ≡ is.consumer.provider
      provider true = refl
      provider false = refl

  -- whatever taste there is
  marked_taste : (test : Consumer → Bool) (mark : Bool) (o : Option Taste) → HasTasteConsumer u o
      → HasTasteConsumer (set_marks u test mark) o
  marked_taste test mark None is = marks-found.of u test mark 2
      ∙ ap (change_where test (λ (y : Consumer). record y { spoiled = mark })) is
  marked_taste test mark (Some s) is = marked_tasting test mark s is

  -- marks that are set or taken
  pub less-marks : (test : Consumer → Bool) (mark : Bool) → IsLess w (set_marks u test mark)
  less-marks test mark = record {
    order = marks-found.order u test mark less.order;
    ranks = sound-ranks.marked u test mark less.ranks;
    lower = λ g. omega (arith, (plain-stay.marks u test mark).same g, less.lower g);
    demand = demand-trans (granted_in w) w.topology u (set_marks u test mark) less.demand
        (unseen_marks (granted_in w) u test mark);
    live = parts-alive.marked u test mark less.live;
    geoms = less.geoms;
    providers = less.providers;
    consumers = changed-from test (λ (x : Consumer). record x { spoiled = mark }) IsConsumerOf
        (λ x y is. record { same = ap (λ (v : Consumer). record v { spoiled = mark }) is.same })
        w.topology.consumers u.consumers less.consumers;
    fewer = less.fewer;
    stay = λ x here. marked_there test mark x (less.stay x here);
    tasting = marked_taste test mark w.taste less.tasting;
  }

-- these changes make a graph come to less
pub changes_make_less : ChangesMakeLess
changes_make_less = record {
  error = λ w u p less. less-error w u less p;
  withering = λ w u g not_dev not_taste less. less-withering w u less g (not_dev, not_taste);
  marks = λ w u test mark less. less-marks w u less test mark;
  started = λ w u g less. less-started w u less g;
}

-- What is found in a graph that has come to less.

-- whether something can lie below a configuration
abbrev pub has_below : Config → Bool
has_below Nothing = false
has_below (Disk disk) = false
has_below _ = true

-- where a component stands, something can
pub component-below : (config : Config) (k c : ℕ) → component config k ≡ Some c → has_below config ≡ true
component-below Nothing k c e = absurd (let no : ⊥ = cc in no)
component-below (Disk disk) k c e = absurd (let no : ⊥ = cc in no)
component-below _ k c e = refl

-- so where one is in the list
pub components-below : (config : Config) (c : ℕ) → Contains (components config) c → has_below config ≡ true
components-below Nothing c here = absurd (nothing_in c here)
components-below (Disk disk) c here = absurd (nothing_in c here)
components-below _ c here = refl

-- a class that isn't granted counts, and isn't that of disks
pub record IsMiddleKind (kind : Kind) : Type 0 where
  pub granted : is_granted_kind kind ≡ false
  pub disk : is_kind kind kinds.Disk ≡ false

-- the configuration of a disk has nothing below
bare_disk : (config : Config) → fits_kind kinds.Disk config ≡ true → has_below config ≡ false
bare_disk (Disk disk) e = refl
bare_disk _ e = from_false_true e

-- a geom with something below is of such a class
pub middle_kind : (kind : Kind) (config : Config) → fits_kind kind config ≡ true → has_below config ≡ true
    → IsMiddleKind kind
middle_kind kinds.Disk config e has = from_false_true (sym (bare_disk config e) ∙ has)
middle_kind kinds.Dev config e has = from_false_true (sym (ap has_below (bare_config kinds.Dev config refl e)) ∙ has)
middle_kind kinds.Taste config e has =
    from_false_true (sym (ap has_below (bare_config kinds.Taste config refl e)) ∙ has)
middle_kind _ config e has = record { granted = refl; disk = refl }

-- the disk of a provider that stands with its geom
pub disk_there : (t : Topology Config) (p : ℕ) (y : Provider) (g : Geom Config) → provider_at t p ≡ Some y
    → geom_at t y.geom ≡ Some g → disk_at t p ≡ disk_of g.config
disk_there t p y g found of =
    ap (λ (o : Option Provider). option_and_then (λ (x : Geom Config). disk_of x.config)
    (option_and_then (λ (x : Provider). geom_at t x.geom) o)) found
    ∙ ap (option_and_then (λ (x : Geom Config). disk_of x.config)) of

-- its geom
pub geom_there : (t : Topology Config) (p : ℕ) (y : Provider) (g : Geom Config) → provider_at t p ≡ Some y
    → geom_at t y.geom ≡ Some g → geom_of_provider t p ≡ Some g
geom_there t p y g found of = ap (option_and_then (λ (x : Provider). geom_at t x.geom)) found ∙ of

-- a provider that stands with its geom, before and after
pub record StandsStill (w : World) (u : Topology Config) (p : ℕ) : Type 0 where
  pub provider : Provider
  pub found : provider_at u p ≡ Some provider
  pub before : Provider
  pub was : provider_at w.topology p ≡ Some before
  pub is : IsProviderOf before provider
  pub geom : Geom Config
  pub of : geom_at u provider.geom ≡ Some geom
  pub geom_before : Geom Config
  pub was_of : geom_at w.topology before.geom ≡ Some geom_before
  pub geom_is : IsGeomOf geom_before geom

module _ (w : World) (u : Topology Config) (firm : Firm w) (less : IsLess w u) where
  -- the graph before stands in order
  pub before_order : IsInOrder w.topology
  before_order = sound-order w firm.graph.numbers

  -- what is found was found before
  pub geom_from : (n : ℕ) (y : Geom Config) → geom_at u n ≡ Some y
      → From (λ (x : Geom Config). x.number) IsGeomOf w.topology.geoms n y
  geom_from n y found =
      from-found (λ (x : Geom Config). x.number) IsGeomOf geom-number w.topology.next_geom w.topology.geoms u.geoms
      before_order.geoms less.geoms n y found

  -- so a provider
  pub provider_from : (n : ℕ) (y : Provider) → provider_at u n ≡ Some y
      → From (λ (x : Provider). x.number) IsProviderOf w.topology.providers n y
  provider_from n y found =
      from-found (λ (x : Provider). x.number) IsProviderOf provider-number w.topology.next_provider
      w.topology.providers u.providers before_order.providers less.providers n y found

  -- and a consumer
  pub consumer_from : (n : ℕ) (y : Consumer) → consumer_at u n ≡ Some y
      → From (λ (x : Consumer). x.number) IsConsumerOf w.topology.consumers n y
  consumer_from n y found =
      from-found (λ (x : Consumer). x.number) IsConsumerOf consumer-number w.topology.next_consumer
      w.topology.consumers u.consumers before_order.consumers less.consumers n y found

  -- a provider that stands, does so with its geom
  pub stands-still : (p : ℕ) → IsSome (provider_at u p) → StandsStill w u p
  stands-still p there =
      let y = has (provider_at u p) there in
      let x = provider_from p y.item y.is in
      let g = has (geom_at u y.item.geom)
      (All-contains (λ (z : Provider). IsSome (geom_at u z.geom)) u.providers y.item less.live.offerers
      (find-Contains (λ (z : Provider). z.number == p) u.providers y.item y.is)) in
      let h = geom_from y.item.geom g.item g.is in
      record {
        provider = y.item;
        found = y.is;
        before = x.item;
        was = x.found;
        is = x.is;
        geom = g.item;
        of = g.is;
        geom_before = h.item;
        was_of = subst (λ n. geom_at w.topology n ≡ Some h.item) (ap (λ (z : Provider). z.geom) x.is.same) h.found;
        geom_is = h.is;
      }

  -- so does one to which a consumer is attached
  pub attached-still : (c : Consumer) (p : ℕ) → Contains u.consumers c → c.provider ≡ Some p → StandsStill w u p
  attached-still c p here to =
      stands-still p (at-found c.provider (λ q. IsSome (provider_at u q)) p to
      (All-contains (λ (z : Consumer). IfSome z.provider (λ q. IsSome (provider_at u q))) u.consumers c
      less.live.providers here))

  -- what a consumer wants
  wants-still : (x y : Consumer) → IsConsumerOf x y → want (granted_in w) u y ≡ want (granted_in w) w.topology x
  wants-still x y is = less.demand.wants y tt ∙ ap (want (granted_in w) w.topology) is.same

  -- a consumer that stays, as it is afterwards
  pub record StaysSo (n : ℕ) (x : Consumer) : Type 0 where
    pub now : Consumer
    pub found : consumer_at u n ≡ Some now
    pub here : Contains u.consumers now
    pub is : IsConsumerOf x now

  -- a consumer that was found stays, or is spent
  pub stays_or_spent : (n : ℕ) (x : Consumer) → consumer_at w.topology n ≡ Some x → StaysSo n x ⊎ IsSpent w x
  stays_or_spent n x found =
      elim (less.stay x (find-Contains (λ (z : Consumer). z.number == n) w.topology.consumers x found)) [
        | inl there ↦ inl (stays (subst (λ m. IsSome (consumer_at u m))
            (number_found (λ (z : Consumer). z.number) w.topology.consumers n x found) there))
        | inr spent ↦ inr spent
      ]
    where
      stays : IsSome (consumer_at u n) → StaysSo n x
      stays there =
          let y = has (consumer_at u n) there in
          let f = consumer_from n y.item y.is in
          record {
            now = y.item;
            found = y.is;
            here = find-Contains (λ (z : Consumer). z.number == n) u.consumers y.item y.is;
            is = subst (λ z. IsConsumerOf z y.item) (one-found (consumer_at w.topology n) f.item x f.found found) f.is;
          }

  -- a provider of a geom was one before
  pub of_geom : (n : ℕ) (y : Provider) → Contains (providers_of u n) y
      → ComesFrom IsProviderOf (providers_of w.topology n) y
  of_geom n y here =
      let kept = filter-Contains (λ (z : Provider). z.geom == n) u.providers y here in
      let o = less.providers y kept.0 in
      let own : o.item.geom ≡ n = sym (ap (λ (z : Provider). z.geom) o.fact.same) ∙ eqb-true y.geom n kept.1 in
      record {
        item = o.item;
        stands = Contains-filter (λ (z : Provider). z.geom == n) w.topology.providers o.item o.stands
            (eq-eqb o.item.geom n own);
        fact = o.fact;
      }

-- a spent consumer of a geom with something below: no provider of the geom has a count
pub spent-closed : (w : World) (c : Consumer) (g : Geom Config) → IsSpent w c → geom_at w.topology c.geom ≡ Some g
    → fits_kind g.kind g.config ≡ true → has_below g.config ≡ true
    → All (λ y. have (granted_in w) w.topology y.number ≡ no_counts) (providers_of w.topology g.number)
spent-closed w c g spent found fits has =
    let middle = middle_kind g.kind g.config fits has in
    wants_nothing (granted_in w) w.topology c g found middle.granted middle.disk spent.idle

-- A graph that has come to less: the bios still are what they were.

-- the pieces of a bio don't depend on errors
same_targets : (config : Config) (p : Provider) (b : Bool) (x : Bio)
    → piece_targets config (record p { errored = b }) x ≡ piece_targets config p x
same_targets (Disk disk) p b x = refl
same_targets _ p b x = refl

-- who wants nothing has no count for a request
pub no_count : (b : Bool) (r n : ℕ) → r ≡ 0 → n ≡ 0 → (IsTrue b → 0 < r) × (b ≡ false → 0 < n) → ⊥
no_count true r n er en counts = let some : 0 < r = counts.0 refl in omega arith
no_count false r n er en counts = let some : 0 < n = counts.1 refl in omega arith

-- a bio's consumer, and its provider with the geom, before and after
pub record StandsFor (w : World) (u : Topology Config) (x : Bio) : Type 0 where
  pub source : Consumer
  pub found : consumer_at u x.source ≡ Some source
  pub attached : source.provider ≡ Some x.target
  pub counts : (IsTrue (is_read x.cmd) → 0 < (want (granted_in w) u source).r)
      × (is_read x.cmd ≡ false → 0 < (want (granted_in w) u source).w)
  pub target : StandsStill w u x.target

module _ (w : World) (u : Topology Config) (firm : Firm w) (less : IsLess w u) where
  -- each bio has them
  pub bio-stands : (x : Bio) → Contains w.bios x → StandsFor w u x
  bio-stands x here =
      elim (stays_or_spent w u firm less x.source d.item d.is) [
        | inl stays ↦
            (let to : stays.now.provider ≡ Some x.target = ap (λ (z : Consumer). z.provider) stays.is.same ∙ d.fact.0 in
            record {
              source = stays.now;
              found = stays.found;
              attached = to;
              counts = subst (λ a. (IsTrue (is_read x.cmd) → 0 < a.r) × (is_read x.cmd ≡ false → 0 < a.w))
                  (sym (wants-still w u firm less d.item stays.now stays.is)) d.fact.1;
              target = attached-still w u firm less stays.now x.target stays.here to;
            })
        | inr spent ↦
            absurd (no_count (is_read x.cmd) (want (granted_in w) w.topology d.item).r
            (want (granted_in w) w.topology d.item).w (ap (λ a. a.r) spent.idle) (ap (λ a. a.w) spent.idle) d.fact.1)
      ]
    where
      -- its consumer before
      d : FoundWith (consumer_at w.topology x.source)
          (λ c. (c.provider ≡ Some x.target) × HasCountFor (granted_in w) w.topology x c)
      d = found-with (consumer_at w.topology x.source)
          (λ c. (c.provider ≡ Some x.target) × HasCountFor (granted_in w) w.topology x c)
          (All-contains (IsBioInOrder (granted_in w) w.topology) w.bios x firm.bios.order here).source

  -- so it is in order
  bio_in_order : (x : Bio) → Contains w.bios x → IsBioInOrder (granted_in w) u x
  bio_in_order x here =
      let s = bio-stands x here in
      let old = All-contains (IsBioInOrder (granted_in w) w.topology) w.bios x firm.bios.order here in
      record {
        source = some-with (consumer_at u x.source)
            (λ c. (c.provider ≡ Some x.target) × HasCountFor (granted_in w) u x c) s.source s.found
            (s.attached, s.counts);
        target = some-with (provider_at u x.target) (λ p. is_flush x.cmd ≡ false → IsRangeInside x p)
            s.target.provider s.target.found (λ other.
            let r = at-some (provider_at w.topology x.target) (λ p. is_flush x.cmd ≡ false → IsRangeInside x p)
            s.target.before s.target.was old.target other in
            subst (IsRangeInside x) (sym s.target.is.same) (record {
              some_byte = r.some_byte;
              not_long = r.not_long;
              offset_whole = r.offset_whole;
              len_whole = r.len_whole;
              inside = r.inside;
            }));
        bytes = old.bytes;
      }

  -- its children are its pieces
  has_pieces : (x : Bio) → Contains w.bios x → HasItsPieces w.topology w.bios x → HasItsPieces u w.bios x
  has_pieces x here old =
      let s = (bio-stands x here).target in
      let was = at-some (geom_at w.topology s.before.geom)
      (λ g. map shape_of_child (children_among w.bios x.number) ≡ map (λ item. shape_of_piece x item.0 item.1)
      (enumerate_from 0 (piece_targets g.config s.before x)))
      s.geom_before s.was_of (at-some (provider_at w.topology x.target)
      (λ p. IsSomeAnd (geom_at w.topology p.geom) (λ g.
      map shape_of_child (children_among w.bios x.number) ≡ map (λ item. shape_of_piece x item.0 item.1)
      (enumerate_from 0 (piece_targets g.config p x))))
      s.before s.was old) in
      let same : piece_targets s.geom.config s.provider x ≡ piece_targets s.geom_before.config s.before x =
      ap (λ (z : Geom Config). piece_targets z.config s.provider x) s.geom_is.same
      ∙ ap (λ z. piece_targets s.geom_before.config z x) s.is.same
      ∙ same_targets s.geom_before.config s.before s.provider.errored x in
      some-with (provider_at u x.target) (λ p. IsSomeAnd (geom_at u p.geom) (λ g.
      map shape_of_child (children_among w.bios x.number) ≡ map (λ item. shape_of_piece x item.0 item.1)
      (enumerate_from 0 (piece_targets g.config p x))))
      s.provider s.found (some-with (geom_at u s.provider.geom)
      (λ g. map shape_of_child (children_among w.bios x.number) ≡ map (λ item. shape_of_piece x item.0 item.1)
      (enumerate_from 0 (piece_targets g.config s.provider x)))
      s.geom s.of
      (was ∙ ap (λ (ts : List PieceTarget). map (λ item. shape_of_piece x item.0 item.1) (enumerate_from 0 ts))
      (sym same)))

  -- so families are in order
  family_in_order : (x : Bio) → Contains w.bios x → IsFamilyInOrder u w.bios x
  family_in_order x here =
      let old = All-contains (IsFamilyInOrder w.topology w.bios) w.bios x firm.bios.families here in
      record {
        parent = old.parent;
        pieces = λ waits. has_pieces x here (old.pieces waits);
        not_complete = old.not_complete;
        root = old.root;
      }

  -- the disk of a bio is what it was
  same_disk : (x : Bio) → Contains w.bios x → disk_at u x.target ≡ disk_at w.topology x.target
  same_disk x here =
      let s = (bio-stands x here).target in
      disk_there u x.target s.provider s.geom s.found s.of ∙ ap (λ (z : Geom Config). disk_of z.config) s.geom_is.same
      ∙ sym (disk_there w.topology x.target s.before s.geom_before s.was s.was_of)

  -- bios are in order
  pub less-bios : All (IsBioInOrder (granted_in w) u) w.bios
  less-bios = all_of (IsBioInOrder (granted_in w) u) w.bios bio_in_order

  -- families are
  pub less-families : All (IsFamilyInOrder u w.bios) w.bios
  less-families = all_of (IsFamilyInOrder u w.bios) w.bios family_in_order

  -- and so are those at disks
  pub less-disks : DisksHold u w.bios
  less-disks = record {
    at_disk = all_of (λ x. IsTrue (is_sent x.phase || is_busy x.phase) → IsSome (disk_at u x.target)) w.bios
        (λ x here out.
        subst (λ o. IsSome o) (sym (same_disk x here))
        (All-contains (λ x. IsTrue (is_sent x.phase || is_busy x.phase) → IsSome (disk_at w.topology x.target)) w.bios x
        firm.bios.disks.at_disk here out));
    one_busy = λ i j d less_than short a b disk first second.
        let here : Contains w.bios (get_or w.bios i d) = Contains-get_or w.bios i d (omega (arith, less_than, short)) in
        let there : Contains w.bios (get_or w.bios j d) = Contains-get_or w.bios j d short in
        firm.bios.disks.one_busy i j d less_than short a b disk
        (sym (same_disk (get_or w.bios i d) here) ∙ first) (sym (same_disk (get_or w.bios j d) there) ∙ second);
  }
