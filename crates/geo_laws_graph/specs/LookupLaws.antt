-- Laws of look-ups after a change of one thing, for any configuration C of a class.
use Rattle.std.specs.Prelude.{◌≡◌, ◌≢◌, ℕ, ◌+◌, ◌<◌, ◌≤◌, ◌==◌, nat_le, Bool, true, false, not, ◌&&◌, ◌||◌, List, [], ◌∷◌, ◌++◌, Option, Some, None, IfSome, IsSome, IsSomeAnd, filter, find, map, option_map}
use Rattle.std.specs.List.{AllByRecursion}
use Rattle.std.specs.Option.{option_to_list}
use Rattle.geo_model.specs.Kind.{Kind}
use Rattle.geo_model.specs.Words.{same_name, names_number, change_where}
use Rattle.geo_model.specs.Topology.{with_configs, Topology, Geom, Provider, Consumer, geom_at, provider_at, consumer_at, providers_of, consumers_of, attached_to, providers_under, is_name_taken, find_provider, is_errored, is_withering, add_geom, add_provider, add_consumer, remove_geom, remove_provider, remove_consumer, attach, set_error, set_size, set_withering, set_marks, set_config, note_started, detach}
use Rattle.geo_model.specs.World.{World, Config}
use Rattle.geo_model.specs.Sound.{NumbersHold}
use Rattle.geo_model.specs.Steady.{PartsHaveGeoms, AreAttached}
use Rattle.geo_model.specs.Graph.{AreNumbers, IsInOrder, PartsLive}

-- what is made by adding
abbrev pub new_geom : {C : Type 0} → Topology C → Kind → List ℕ → C → Bool → Geom C
new_geom t kind name config automatic =
    record {
      number = t.next_geom;
      kind = kind;
      name = name;
      config = config;
      automatic = automatic;
      withering = false;
      started = 0;
    }

-- a new provider of a geom, of the next number and without an error
abbrev pub new_provider : {C : Type 0} → Topology C → ℕ → List ℕ → ℕ → ℕ → Provider
new_provider t geom name size sector =
    record { number = t.next_provider; geom = geom; name = name; size = size; sector = sector; errored = false }

-- a new consumer of a geom, of the next number and without a mark, attached or not
abbrev pub new_consumer : {C : Type 0} → Topology C → ℕ → Option ℕ → Consumer
new_consumer t geom provider = record { number = t.next_consumer; geom = geom; provider = provider; spoiled = false }

-- in lists in order each is what is found at its number
pub record EachIsFound (C : Type 0) : Type 0 where
  pub geoms : (t : Topology C) → IsInOrder t → AllByRecursion (λ (x : Geom C). geom_at t x.number ≡ Some x) t.geoms
  pub providers : (t : Topology C) → IsInOrder t
      → AllByRecursion (λ (x : Provider). provider_at t x.number ≡ Some x) t.providers
  pub consumers : (t : Topology C) → IsInOrder t
      → AllByRecursion (λ (x : Consumer). consumer_at t x.number ≡ Some x) t.consumers

-- Adding

-- a new geom is found at its number, the others as before
pub record AddedGeomIsFound (C : Type 0) : Type 0 where
  pub new : (t : Topology C) (kind : Kind) (name : List ℕ) (config : C) (automatic : Bool) → IsInOrder t
      → geom_at (add_geom t kind name config automatic) t.next_geom ≡ Some (new_geom t kind name config automatic)
  pub others : (t : Topology C) (kind : Kind) (name : List ℕ) (config : C) (automatic : Bool) (g : ℕ) → g ≢ t.next_geom
      → geom_at (add_geom t kind name config automatic) g ≡ geom_at t g
  pub withering : (t : Topology C) (kind : Kind) (name : List ℕ) (config : C) (automatic : Bool) (g : ℕ)
      → is_withering (add_geom t kind name config automatic) g ≡ is_withering t g
  pub order : (t : Topology C) (kind : Kind) (name : List ℕ) (config : C) (automatic : Bool) → IsInOrder t
      → IsInOrder (add_geom t kind name config automatic)

-- a new provider is found at its number, among those of its geom and by its name
pub record AddedProviderIsFound (C : Type 0) : Type 0 where
  pub new : (t : Topology C) (geom : ℕ) (name : List ℕ) (size sector : ℕ) → IsInOrder t
      → provider_at (add_provider t geom name size sector) t.next_provider ≡ Some (new_provider t geom name size sector)
  pub others : (t : Topology C) (geom : ℕ) (name : List ℕ) (size sector p : ℕ) → p ≢ t.next_provider
      → provider_at (add_provider t geom name size sector) p ≡ provider_at t p
  pub own : (t : Topology C) (geom : ℕ) (name : List ℕ) (size sector : ℕ)
      → providers_of (add_provider t geom name size sector) geom ≡ providers_of t geom
      ++ new_provider t geom name size sector ∷ []
  pub others_of : (t : Topology C) (geom : ℕ) (name : List ℕ) (size sector g : ℕ) → g ≢ geom
      → providers_of (add_provider t geom name size sector) g ≡ providers_of t g
  pub errors : (t : Topology C) (geom : ℕ) (name : List ℕ) (size sector p : ℕ)
      → is_errored (add_provider t geom name size sector) p ≡ is_errored t p
  pub taken : (t : Topology C) (geom : ℕ) (name : List ℕ) (size sector : ℕ) (other : List ℕ)
      → is_name_taken (add_provider t geom name size sector) other ≡ (is_name_taken t other || same_name name other)
  pub named : (t : Topology C) (geom : ℕ) (name : List ℕ) (size sector : ℕ) → is_name_taken t name ≡ false
      → find_provider (add_provider t geom name size sector) name ≡ Some t.next_provider
  pub other_names : (t : Topology C) (geom : ℕ) (name : List ℕ) (size sector : ℕ) (other : List ℕ)
      → same_name name other ≡ false
      → find_provider (add_provider t geom name size sector) other ≡ find_provider t other
  pub order : (t : Topology C) (geom : ℕ) (name : List ℕ) (size sector : ℕ) → IsInOrder t
      → IsInOrder (add_provider t geom name size sector)

-- a new consumer is found at its number, among those of its geom and at its provider
pub record AddedConsumerIsFound (C : Type 0) : Type 0 where
  pub new : (t : Topology C) (geom : ℕ) (o : Option ℕ) → IsInOrder t
      → consumer_at (add_consumer t geom o) t.next_consumer ≡ Some (new_consumer t geom o)
  pub others : (t : Topology C) (geom : ℕ) (o : Option ℕ) (c : ℕ) → c ≢ t.next_consumer
      → consumer_at (add_consumer t geom o) c ≡ consumer_at t c
  pub own : (t : Topology C) (geom : ℕ) (o : Option ℕ)
      → consumers_of (add_consumer t geom o) geom ≡ consumers_of t geom ++ new_consumer t geom o ∷ []
  pub others_of : (t : Topology C) (geom : ℕ) (o : Option ℕ) (g : ℕ) → g ≢ geom
      → consumers_of (add_consumer t geom o) g ≡ consumers_of t g
  pub at : (t : Topology C) (geom p : ℕ)
      → attached_to (add_consumer t geom (Some p)) p ≡ attached_to t p ++ new_consumer t geom (Some p) ∷ []
  pub elsewhere : (t : Topology C) (geom : ℕ) (o : Option ℕ) (p : ℕ) → names_number o p ≡ false
      → attached_to (add_consumer t geom o) p ≡ attached_to t p
  pub under : (t : Topology C) (geom : ℕ) (o : Option ℕ)
      → providers_under (add_consumer t geom o) geom ≡ providers_under t geom ++ option_to_list o
  pub order : (t : Topology C) (geom : ℕ) (o : Option ℕ) → IsInOrder t → IsInOrder (add_consumer t geom o)

-- Removing

-- a geom that is removed isn't found any more, the others as before
pub record RemovedGeomIsGone (C : Type 0) : Type 0 where
  pub gone : (t : Topology C) (g : ℕ) → geom_at (remove_geom t g) g ≡ None
  pub others : (t : Topology C) (g h : ℕ) → h ≢ g → geom_at (remove_geom t g) h ≡ geom_at t h
  pub withering : (t : Topology C) (g h : ℕ) → h ≢ g → is_withering (remove_geom t g) h ≡ is_withering t h
  pub order : (t : Topology C) (g : ℕ) → IsInOrder t → IsInOrder (remove_geom t g)

-- so for a provider; names that aren't its own are found as before
pub record RemovedProviderIsGone (C : Type 0) : Type 0 where
  pub gone : (t : Topology C) (p : ℕ) → provider_at (remove_provider t p) p ≡ None
  pub others : (t : Topology C) (p q : ℕ) → q ≢ p → provider_at (remove_provider t p) q ≡ provider_at t q
  pub of : (t : Topology C) (p g : ℕ)
      → providers_of (remove_provider t p) g ≡ filter (λ x. not (x.number == p)) (providers_of t g)
  pub errors : (t : Topology C) (p q : ℕ) → q ≢ p → is_errored (remove_provider t p) q ≡ is_errored t q
  pub taken : (t : Topology C) (p : ℕ) (x : Provider) (name : List ℕ) → IsInOrder t → provider_at t p ≡ Some x
      → (not x.errored && same_name x.name name) ≡ false
      → is_name_taken (remove_provider t p) name ≡ is_name_taken t name
  pub other_names : (t : Topology C) (p : ℕ) (x : Provider) (name : List ℕ) → IsInOrder t → provider_at t p ≡ Some x
      → same_name x.name name ≡ false → find_provider (remove_provider t p) name ≡ find_provider t name
  pub order : (t : Topology C) (p : ℕ) → IsInOrder t → IsInOrder (remove_provider t p)

-- and for a consumer
pub record RemovedConsumerIsGone (C : Type 0) : Type 0 where
  pub gone : (t : Topology C) (c : ℕ) → consumer_at (remove_consumer t c) c ≡ None
  pub others : (t : Topology C) (c d : ℕ) → d ≢ c → consumer_at (remove_consumer t c) d ≡ consumer_at t d
  pub of : (t : Topology C) (c g : ℕ)
      → consumers_of (remove_consumer t c) g ≡ filter (λ x. not (x.number == c)) (consumers_of t g)
  pub at : (t : Topology C) (c p : ℕ)
      → attached_to (remove_consumer t c) p ≡ filter (λ x. not (x.number == c)) (attached_to t p)
  pub under : (t : Topology C) (c g : ℕ) (x : Consumer) → IsInOrder t → consumer_at t c ≡ Some x → x.geom ≢ g
      → providers_under (remove_consumer t c) g ≡ providers_under t g
  pub order : (t : Topology C) (c : ℕ) → IsInOrder t → IsInOrder (remove_consumer t c)

-- Changing

-- a consumer that is attached is found so, the others as before
pub record AttachedIsFound (C : Type 0) : Type 0 where
  pub here : (t : Topology C) (c p : ℕ) (x : Consumer) → consumer_at t c ≡ Some x
      → consumer_at (attach t c p) c ≡ Some (record x { provider = Some p })
  pub others : (t : Topology C) (c p d : ℕ) → d ≢ c → consumer_at (attach t c p) d ≡ consumer_at t d
  pub of : (t : Topology C) (c p g : ℕ)
      → consumers_of (attach t c p) g
      ≡ change_where (λ x. x.number == c) (λ x. record x { provider = Some p }) (consumers_of t g)
  pub elsewhere : (t : Topology C) (c p q : ℕ) → q ≢ p
      → attached_to (attach t c p) q ≡ filter (λ x. not (x.number == c)) (attached_to t q)
  pub under : (t : Topology C) (c p g : ℕ) (x : Consumer) → IsInOrder t → consumer_at t c ≡ Some x → x.geom ≢ g
      → providers_under (attach t c p) g ≡ providers_under t g
  pub order : (t : Topology C) (c p : ℕ) → IsInOrder t → IsInOrder (attach t c p)

-- so for one that is detached
pub record DetachedIsFound (C : Type 0) : Type 0 where
  pub here : (t : Topology C) (c : ℕ) (x : Consumer) → consumer_at t c ≡ Some x
      → consumer_at (detach t c) c ≡ Some (record x { provider = None })
  pub others : (t : Topology C) (c d : ℕ) → d ≢ c → consumer_at (detach t c) d ≡ consumer_at t d
  pub of : (t : Topology C) (c g : ℕ)
      → consumers_of (detach t c) g
      ≡ change_where (λ x. x.number == c) (λ x. record x { provider = None }) (consumers_of t g)
  pub at : (t : Topology C) (c p : ℕ) → attached_to (detach t c) p ≡ filter (λ x. not (x.number == c)) (attached_to t p)
  pub under : (t : Topology C) (c g : ℕ) (x : Consumer) → IsInOrder t → consumer_at t c ≡ Some x → x.geom ≢ g
      → providers_under (detach t c) g ≡ providers_under t g
  pub order : (t : Topology C) (c : ℕ) → IsInOrder t → IsInOrder (detach t c)

-- a consumer that is made and then attached is one that is made attached, and one that is detached and then removed
-- is one that is removed: so two calls make the one change that a step of the mesh speaks of
pub record TwoChangesAreOne (C : Type 0) : Type 0 where
  pub made : (t : Topology C) (geom p : ℕ) → IsInOrder t
      → attach (add_consumer t geom None) t.next_consumer p ≡ add_consumer t geom (Some p)
  pub removed : (t : Topology C) (c : ℕ) → remove_consumer (detach t c) c ≡ remove_consumer t c

-- a provider with an error is found so; no name is taken that wasn't, and other names stay
pub record ErrorIsFound (C : Type 0) : Type 0 where
  pub here : (t : Topology C) (p : ℕ) (x : Provider) → provider_at t p ≡ Some x
      → provider_at (set_error t p) p ≡ Some (record x { errored = true })
  pub others : (t : Topology C) (p q : ℕ) → q ≢ p → provider_at (set_error t p) q ≡ provider_at t q
  pub of : (t : Topology C) (p g : ℕ)
      → providers_of (set_error t p) g
      ≡ change_where (λ x. x.number == p) (λ x. record x { errored = true }) (providers_of t g)
  pub errored : (t : Topology C) (p : ℕ) → IsSome (provider_at t p) → is_errored (set_error t p) p ≡ true
  pub other_errors : (t : Topology C) (p q : ℕ) → q ≢ p → is_errored (set_error t p) q ≡ is_errored t q
  pub free : (t : Topology C) (p : ℕ) (name : List ℕ) → is_name_taken t name ≡ false
      → is_name_taken (set_error t p) name ≡ false
  pub taken : (t : Topology C) (p : ℕ) (x : Provider) (name : List ℕ) → IsInOrder t → provider_at t p ≡ Some x
      → same_name x.name name ≡ false → is_name_taken (set_error t p) name ≡ is_name_taken t name
  pub other_names : (t : Topology C) (p : ℕ) (x : Provider) (name : List ℕ) → IsInOrder t → provider_at t p ≡ Some x
      → same_name x.name name ≡ false → find_provider (set_error t p) name ≡ find_provider t name
  pub order : (t : Topology C) (p : ℕ) → IsInOrder t → IsInOrder (set_error t p)

-- a provider of another media size is found so; errors, names and all else stay
pub record SizeIsFound (C : Type 0) : Type 0 where
  pub here : (t : Topology C) (p size : ℕ) (x : Provider) → provider_at t p ≡ Some x
      → provider_at (set_size t p size) p ≡ Some (record x { size = size })
  pub others : (t : Topology C) (p size q : ℕ) → q ≢ p → provider_at (set_size t p size) q ≡ provider_at t q
  pub of : (t : Topology C) (p size g : ℕ)
      → providers_of (set_size t p size) g
      ≡ change_where (λ x. x.number == p) (λ x. record x { size = size }) (providers_of t g)
  pub errors : (t : Topology C) (p size q : ℕ) → is_errored (set_size t p size) q ≡ is_errored t q
  pub taken : (t : Topology C) (p size : ℕ) (name : List ℕ)
      → is_name_taken (set_size t p size) name ≡ is_name_taken t name
  pub named : (t : Topology C) (p size : ℕ) (name : List ℕ)
      → find_provider (set_size t p size) name ≡ find_provider t name
  pub order : (t : Topology C) (p size : ℕ) → IsInOrder t → IsInOrder (set_size t p size)

-- a geom that withers is found so
pub record WitheringIsFound (C : Type 0) : Type 0 where
  pub here : (t : Topology C) (g : ℕ) (x : Geom C) → geom_at t g ≡ Some x
      → geom_at (set_withering t g) g ≡ Some (record x { withering = true })
  pub others : (t : Topology C) (g h : ℕ) → h ≢ g → geom_at (set_withering t g) h ≡ geom_at t h
  pub withers : (t : Topology C) (g : ℕ) → IsSome (geom_at t g) → is_withering (set_withering t g) g ≡ true
  pub other_geoms : (t : Topology C) (g h : ℕ) → h ≢ g → is_withering (set_withering t g) h ≡ is_withering t h
  pub order : (t : Topology C) (g : ℕ) → IsInOrder t → IsInOrder (set_withering t g)

-- marks are found at the consumers that pass, and change nothing else
pub record MarksAreFound (C : Type 0) : Type 0 where
  pub at : (t : Topology C) (test : Consumer → Bool) (mark : Bool) (c : ℕ) (x : Consumer)
      → consumer_at t c ≡ Some x → test x ≡ true
      → consumer_at (set_marks t test mark) c ≡ Some (record x { spoiled = mark })
  pub others : (t : Topology C) (test : Consumer → Bool) (mark : Bool) (c : ℕ) (x : Consumer)
      → consumer_at t c ≡ Some x → test x ≡ false
      → consumer_at (set_marks t test mark) c ≡ Some x
  pub none : (t : Topology C) (test : Consumer → Bool) (mark : Bool) (c : ℕ) → consumer_at t c ≡ None
      → consumer_at (set_marks t test mark) c ≡ None
  pub of : (t : Topology C) (test : Consumer → Bool) (mark : Bool) (g : ℕ)
      → consumers_of (set_marks t test mark) g ≡ change_where test (λ x. record x { spoiled = mark }) (consumers_of t g)
  pub attached : (t : Topology C) (test : Consumer → Bool) (mark : Bool) (p : ℕ)
      → attached_to (set_marks t test mark) p ≡ change_where test (λ x. record x { spoiled = mark }) (attached_to t p)
  pub under : (t : Topology C) (test : Consumer → Bool) (mark : Bool) (g : ℕ)
      → providers_under (set_marks t test mark) g ≡ providers_under t g
  pub order : (t : Topology C) (test : Consumer → Bool) (mark : Bool) → IsInOrder t → IsInOrder (set_marks t test mark)

-- another configuration is found at the geom
pub record ConfigIsFound (C : Type 0) : Type 0 where
  pub here : (t : Topology C) (g : ℕ) (config : C) (x : Geom C) → geom_at t g ≡ Some x
      → geom_at (set_config t g config) g ≡ Some (record x { config = config })
  pub others : (t : Topology C) (g : ℕ) (config : C) (h : ℕ) → h ≢ g → geom_at (set_config t g config) h ≡ geom_at t h
  pub withering : (t : Topology C) (g : ℕ) (config : C) (h : ℕ)
      → is_withering (set_config t g config) h ≡ is_withering t h
  pub order : (t : Topology C) (g : ℕ) (config : C) → IsInOrder t → IsInOrder (set_config t g config)

-- and one more request started
pub record StartIsFound (C : Type 0) : Type 0 where
  pub here : (t : Topology C) (g : ℕ) (x : Geom C) → geom_at t g ≡ Some x
      → geom_at (note_started t g) g ≡ Some (record x { started = x.started + 1 })
  pub others : (t : Topology C) (g h : ℕ) → h ≢ g → geom_at (note_started t g) h ≡ geom_at t h
  pub withering : (t : Topology C) (g h : ℕ) → is_withering (note_started t g) h ≡ is_withering t h
  pub order : (t : Topology C) (g : ℕ) → IsInOrder t → IsInOrder (note_started t g)

-- the geom as it is seen with another configuration
abbrev pub seen_geom : {C D : Type 0} → (C → D) → Geom C → Geom D
seen_geom see x = record {
  number = x.number;
  kind = x.kind;
  name = x.name;
  config = see x.config;
  automatic = x.automatic;
  withering = x.withering;
  started = x.started;
}

-- configurations that are seen otherwise: each geom is found so
pub record SeenGeomIsFound (C D : Type 0) : Type 0 where
  pub at : (see : C → D) (t : Topology C) (g : ℕ)
      → geom_at (with_configs see t) g ≡ option_map (seen_geom see) (geom_at t g)
  pub withering : (see : C → D) (t : Topology C) (g : ℕ) → is_withering (with_configs see t) g ≡ is_withering t g
  pub order : (see : C → D) (t : Topology C) → IsInOrder t → IsInOrder (with_configs see t)

-- Walks

-- what is left of a walk over a list from a number on
abbrev pub left_from : {X : Type 0} → (X → ℕ) → ℕ → List X → List X
left_from number from_number xs = filter (λ x. nat_le from_number (number x)) xs

-- one step of a walk: the item of the number comes next, and what is left then comes behind it
pub record IsStep {X : Type 0} (number : X → ℕ) (xs : List X) (next from_number n : ℕ) : Type 0 where
  pub item : X
  pub is : number item ≡ n
  pub left : left_from number from_number xs ≡ item ∷ left_from number (n + 1) xs
  pub past : from_number ≤ n
  pub known : n < next

-- a walk over a list in order of numbers, each time to the first number that isn't below one more than the last,
-- meets each item once
pub record WalksMeetAll (X : Type 0) : Type 0 where
  pub begin : (number : X → ℕ) (xs : List X) → left_from number 0 xs ≡ xs
  pub step : (number : X → ℕ) (xs : List X) (next from_number n : ℕ) → AreNumbers (map number xs) next
      → option_map number (find (λ x. nat_le from_number (number x)) xs) ≡ Some n → IsStep number xs next from_number n
  pub rest : (number : X → ℕ) (xs : List X) (from_number : ℕ)
      → option_map number (find (λ x. nat_le from_number (number x)) xs) ≡ None → left_from number from_number xs ≡ []
  pub empty : (number : X → ℕ) (xs : List X) → option_map number (find (λ x. nat_le 0 (number x)) xs) ≡ None → xs ≡ []
  pub part : (number : X → ℕ) (keep : X → Bool) (xs : List X) (next : ℕ) → AreNumbers (map number xs) next
      → AreNumbers (map number (filter keep xs)) next

-- What lives

-- what a look-up finds lives, and what is found by a name has it
pub record WhatIsFoundLives (C : Type 0) : Type 0 where
  pub geom : (t : Topology C) (from_number g : ℕ) → IsInOrder t
      → option_map (λ x. x.number) (find (λ x. nat_le from_number x.number) t.geoms) ≡ Some g
      → IsSome (geom_at t g)
  pub provider : (t : Topology C) (from_number p : ℕ) → IsInOrder t
      → option_map (λ x. x.number) (find (λ x. nat_le from_number x.number) t.providers) ≡ Some p
      → IsSome (provider_at t p)
  pub consumer : (t : Topology C) (from_number c : ℕ) → IsInOrder t
      → option_map (λ x. x.number) (find (λ x. nat_le from_number x.number) t.consumers) ≡ Some c
      → IsSome (consumer_at t c)
  pub named : (t : Topology C) (name : List ℕ) (p : ℕ) → IsInOrder t → find_provider t name ≡ Some p
      → IsSomeAnd (provider_at t p) (λ x. same_name x.name name ≡ true)

-- what the parts of the graph name goes on living
pub record PartsStayAlive (C : Type 0) : Type 0 where
  pub geom_added : (t : Topology C) (kind : Kind) (name : List ℕ) (config : C) (automatic : Bool) → PartsLive t
      → PartsLive (add_geom t kind name config automatic)
  pub provider_added : (t : Topology C) (geom : ℕ) (name : List ℕ) (size sector : ℕ) → IsSome (geom_at t geom)
      → PartsLive t
      → PartsLive (add_provider t geom name size sector)
  pub consumer_added : (t : Topology C) (geom : ℕ) (o : Option ℕ) → IsSome (geom_at t geom)
      → IfSome o (λ p. IsSome (provider_at t p))
      → PartsLive t → PartsLive (add_consumer t geom o)
  pub geom_removed : (t : Topology C) (g : ℕ) → providers_of t g ≡ [] → consumers_of t g ≡ [] → PartsLive t
      → PartsLive (remove_geom t g)
  pub provider_removed : (t : Topology C) (p : ℕ) → attached_to t p ≡ [] → PartsLive t → PartsLive (remove_provider t p)
  pub consumer_removed : (t : Topology C) (c : ℕ) → PartsLive t → PartsLive (remove_consumer t c)
  pub attached : (t : Topology C) (c p : ℕ) → IsSome (provider_at t p) → PartsLive t → PartsLive (attach t c p)
  pub detached : (t : Topology C) (c : ℕ) → PartsLive t → PartsLive (detach t c)
  pub errored : (t : Topology C) (p : ℕ) → PartsLive t → PartsLive (set_error t p)
  pub sized : (t : Topology C) (p size : ℕ) → PartsLive t → PartsLive (set_size t p size)
  pub marked : (t : Topology C) (test : Consumer → Bool) (mark : Bool) → PartsLive t → PartsLive (set_marks t test mark)
  pub withering : (t : Topology C) (g : ℕ) → PartsLive t → PartsLive (set_withering t g)
  pub config : (t : Topology C) (g : ℕ) (config : C) → PartsLive t → PartsLive (set_config t g config)
  pub started : (t : Topology C) (g : ℕ) → PartsLive t → PartsLive (note_started t g)

-- What a sound and steady world has

-- the lists of a sound world stand in order
abbrev pub SoundIsInOrder : Type 0
SoundIsInOrder = (w : World) → NumbersHold w.topology w.disks → IsInOrder w.topology

-- in a steady world what the parts name lives
abbrev pub SteadyPartsLive : Type 0
SteadyPartsLive = (t : Topology Config) → PartsHaveGeoms t → AreAttached t → PartsLive t
