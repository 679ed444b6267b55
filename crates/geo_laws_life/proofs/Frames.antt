-- Where only handles, consumers of DEV or TASTE and the taste change, a firm world stays firm.
use Rattle.std.specs.Prelude.{◌≡◌, ◌≢◌, ◌⊎◌, ◌==◌, ◌||◌, ℕ, true, false, [], find, Option, Some, None, Contains, IsSome, IsSomeAnd, MatchOption, ◌↔◌, ◌<◌, ◌≤◌, ◌%◌, Bool, not, map, All, IfSome, IsTrue, option_and_then, List, ◌∷◌, length, filter, fold, count_by, option_map}
use Rattle.std.proofs.Common.{inl, inr, refl, sym, ◌∙◌, ap, subst, arith}
use Rattle.std.proofs.lemmas.Bool.{eq-eqb, eqb-true, or_left, or_right, ne_eqb, cases_eq, not-true}
use Rattle.std.proofs.lemmas.List.Elements.{All-contains, All-weaker, Contains-push_cases, All-from_recursion, recursion_from_All}
use Rattle.std.specs.List.{AllZip, list_any}
use Rattle.std.specs.Option.{option_map_or}
use Rattle.std.proofs.lemmas.List.Sums.{length-filter}
use Rattle.geo_model.proofs.Tests.{from_false_true, from_true_false}
use Rattle.geo_model.proofs.DemandLemmas.{find_passes}
use Rattle.geo_model.specs.Kind.{Kind}
use Rattle.geo_model.specs.Kind.TheVariants as kinds
use Rattle.geo_model.specs.Words.{is_kind, is_granted_kind, names_number, change_where}
use Rattle.geo_model.specs.Topology.{Topology, Geom, Provider, Consumer, geom_at, consumer_at, providers_of, provider_at, geom_of_provider, consumers_of, add_consumer, remove_consumer}
use Rattle.geo_model.specs.World.{World, Config, Nothing, Handle, Taste, Bio, granted_in, is_taste_root, is_read_out, taste_grant}
use Rattle.geo_model.specs.Sound.{fits_kind, IsOfItsClass, HasItsConsumer, IsTasting, HasTasteConsumer, RanksHold, CountsHold, HandlesHold, IsPlaceInside, IsPlaced, LeadsDown, IsTasteInOrder, IsHandleConsumer}
use Rattle.geo_model.specs.Fitting.{Firm, IsWholeIn, FitsBelow, sizes_of, FitsPlace, FitsPlaces, IsAskedInOrder}
use Rattle.geo_model.proofs.FindLists.{some-passes}
use Rattle.geo_model.proofs.MemberLists.{zip_members}
use Rattle.geo_model.proofs.Options.{if-any, some_weaker}
use Rattle.geo_model.specs.Counts.{Counts}
use Rattle.geo_model.specs.TheConstants.{UNTASTED_RANK}
use Rattle.geo_model.specs.Rank.{rank}
use Rattle.geo_model.specs.Demand.{have, is_zero}
use Rattle.geo_model.specs.Place.{Spot, place, component, components, disk_of}
use Rattle.geo_model.specs.Acceptance.{places_of}
use Rattle.geo_model.specs.Graph.{AreNumbers, IsInOrder}
use Rattle.geo_model.specs.SoundBios.{IsBioInOrder, IsFamilyInOrder, HasCountFor}
use Rattle.geo_model.specs.Steady.{has_open_provider, HasItsComponents, ComesFromItsOwner}
use Rattle.geo_model.specs.declared.step.Owner.{Owner}
use Rattle.geo_model.specs.declared.step.Owner.TheVariants as owners
use Rattle.geo_model.specs.WorldEvents.{kill_handle}
use Rattle.geo_laws_graph.proofs.Members.{Has, find-Contains, filter-Contains, Contains-filter, Contains-here, nothing_in, All-from_contained}
use Rattle.geo_laws_graph.proofs.Lists.{found_fresh, found_itself, changed, changed-keeps, find-changed, filter-changed, all-changed, length-changed, numbers-changed}
use Rattle.geo_laws_graph.proofs.Numbered.{number_found, any-contained}
use Rattle.geo_laws_graph.specs.LookupLaws.{new_consumer}
use Rattle.geo_laws_graph.proofs.Found.{added-consumer, removed-consumer}
use Rattle.geo_laws_graph.proofs.Living.{found-before, all_members, sound-order}
use Rattle.geo_laws_counts.specs.CountWords.{HoldsGrants}
use Rattle.geo_laws_counts.proofs.Upward.{names_some}
use Rattle.geo_laws_counts.proofs.LimitFacts.{all_of}
use Rattle.geo_laws_life.proofs.Found.{found-with, some-with, some-there, none-there, one-found, if-found, at-found, keeps_all}
pub use Rattle.geo_laws_life.proofs.Less.{tasting_stays}

-- a class with DEV's number or TASTE's is one whose consumers hold their grants
granted_kind : (kind : Kind) → (is_kind kind kinds.Dev || is_kind kind kinds.Taste) ≡ true
    → is_granted_kind kind ≡ true
granted_kind kinds.Dev e = refl
granted_kind kinds.Taste e = refl
granted_kind _ e = from_false_true e

-- a geom of such a class has no configuration
granted_nothing : (kind : Kind) (config : Config) → is_granted_kind kind ≡ true → fits_kind kind config ≡ true
    → config ≡ Nothing
granted_nothing kind Nothing granted fits = refl
granted_nothing kinds.Dev _ granted fits = from_false_true fits
granted_nothing kinds.Taste _ granted fits = from_false_true fits
granted_nothing _ _ granted fits = from_false_true granted

module _ (w : World) (firm : Firm w) (n : ℕ) where
  -- the graph
  abbrev graph : Topology Config
  graph = w.topology

  -- a geom that is found is of its class
  pub class-at : (g : Geom Config) → geom_at graph n ≡ Some g → IsOfItsClass g
  class-at g found =
      All-contains IsOfItsClass graph.geoms g firm.graph.numbers.classes
      (find-Contains (λ (x : Geom Config). x.number == n) graph.geoms g found)

  module _ (bare : (n ≡ 1) ⊎ (n ≡ 2)) where
    -- the geom of DEV or TASTE stands
    pub stands-at : Has (geom_at graph n)
    stands-at = by bare where
      -- by which it is
      by : (n ≡ 1) ⊎ (n ≡ 2) → Has (geom_at graph n)
      by (inl e) =
          let g = found-with (geom_at graph 1) (λ x. x.withering ≡ false) firm.graph.ranks.dev.stands in
          record { item = g.item; is = subst (λ m. geom_at graph m ≡ Some g.item) (sym e) g.is }
      by (inr e) =
          let g = found-with (geom_at graph 2) (λ x. x.withering ≡ false) firm.graph.ranks.taste.stands in
          record { item = g.item; is = subst (λ m. geom_at graph m ≡ Some g.item) (sym e) g.is }

    -- it is there
    pub bare_there : IsSome (geom_at graph n)
    bare_there = some-there (geom_at graph n) stands-at.item stands-at.is

    -- its consumers hold their grants by its class
    granted : (g : Geom Config) → geom_at graph n ≡ Some g → is_granted_kind g.kind ≡ true
    granted g found = granted_kind g.kind (by bare) where
      -- its number
      number : g.number ≡ n
      number = number_found (λ (x : Geom Config). x.number) graph.geoms n g found

      -- by which it is
      by : (n ≡ 1) ⊎ (n ≡ 2) → (is_kind g.kind kinds.Dev || is_kind g.kind kinds.Taste) ≡ true
      by (inl e) =
          or_left (is_kind g.kind kinds.Dev) (is_kind g.kind kinds.Taste)
          ((class-at g found).dev ∙ eq-eqb g.number 1 (number ∙ e))
      by (inr e) =
          or_right (is_kind g.kind kinds.Dev) (is_kind g.kind kinds.Taste)
          ((class-at g found).taste ∙ eq-eqb g.number 2 (number ∙ e))

    -- so they do
    pub holds_grants : HoldsGrants graph n
    holds_grants = some-with (geom_at graph n) (λ x. is_granted_kind x.kind ≡ true) stands-at.item stands-at.is
        (granted stands-at.item stands-at.is)

    -- it has no configuration
    bare_config : (g : Geom Config) → geom_at graph n ≡ Some g → g.config ≡ Nothing
    bare_config g found = granted_nothing g.kind g.config (granted g found) (class-at g found).config

    -- no provider is of it
    pub not_of_bare : (p : Provider) → Contains graph.providers p → p.geom ≢ n
    not_of_bare p here own =
        nothing_in p (subst (λ ps. Contains ps p) (by bare)
        (Contains-filter (λ (x : Provider). x.geom == n) graph.providers p here (eq-eqb p.geom n own)))
      where
        -- it offers nothing
        by : (n ≡ 1) ⊎ (n ≡ 2) → providers_of graph n ≡ []
        by (inl e) = ap (providers_of graph) e ∙ firm.graph.ranks.dev.no_provider
        by (inr e) = ap (providers_of graph) e ∙ firm.graph.ranks.taste.no_provider

module _ (w : World) (firm : Firm w) where
  -- no handle has a consumer that isn't of DEV
  pub none_holds : (n : ℕ) → ((c : Consumer) → consumer_at w.topology n ≡ Some c → c.geom ≢ 1)
      → find (λ (h : Handle). names_number h.consumer n) w.handles ≡ None
  none_holds n other = by (find (λ (h : Handle). names_number h.consumer n) w.handles) refl where
    -- by what is found
    by : (o : Option Handle) → find (λ (h : Handle). names_number h.consumer n) w.handles ≡ o → o ≡ None
    by None e = refl
    by (Some h) e =
        let names : h.consumer ≡ Some n =
        names_some h.consumer n (find_passes (λ (h : Handle). names_number h.consumer n) w.handles h e) in
        let its = All-contains (HasItsConsumer w.topology) w.handles h firm.handles.handles
        (find-Contains (λ (h : Handle). names_number h.consumer n) w.handles h e) in
        let c = found-with (consumer_at w.topology n) (λ z. z.geom ≡ 1)
        (subst (λ o. MatchOption o (h.dead ≡ true) (λ m. IsSomeAnd (consumer_at w.topology m) (λ z. z.geom ≡ 1)))
        names its) in
        absurd (other c.item c.is c.fact)

  -- and none has the consumer that is made next
  pub none_holds_next : find (λ (h : Handle). names_number h.consumer w.topology.next_consumer) w.handles ≡ None
  none_holds_next =
      none_holds w.topology.next_consumer (λ c e one.
      let fresh = found_fresh (λ (z : Consumer). z.number) w.topology.next_consumer w.topology.next_consumer
      w.topology.consumers firm.graph.numbers.consumers (omega arith) in
      none-there (consumer_at w.topology w.topology.next_consumer) fresh
      (some-there (consumer_at w.topology w.topology.next_consumer) c e))

module _ (w : World) (firm : Firm w) (s : Taste) (is : w.taste ≡ Some s) where
  -- the taste has its consumer
  pub tasting : IsTasting w.topology s
  tasting = subst (HasTasteConsumer w.topology) is firm.handles.taste

  -- its consumer
  abbrev pub taster : Consumer
  taster = tasting.consumer

  -- it is one of TASTE
  kept : Contains w.topology.consumers taster × ((taster.geom == 2) ≡ true)
  kept = filter-Contains (λ (x : Consumer). x.geom == 2) w.topology.consumers taster
      (subst (λ cs. Contains cs taster) (sym tasting.alone) (Contains-here taster []))

  -- it stands
  pub taster_here : Contains w.topology.consumers taster
  taster_here = kept.0

  -- its geom
  pub taster_geom : taster.geom ≡ 2
  taster_geom = eqb-true taster.geom 2 kept.1

  -- it is found
  pub taster_found : consumer_at w.topology taster.number ≡ Some taster
  taster_found = found_itself (λ (x : Consumer). x.number) w.topology.next_consumer w.topology.consumers taster
      firm.graph.numbers.consumers taster_here

  -- what is found at the number that the taste names is of TASTE
  pub of_taste : (c : Consumer) → consumer_at w.topology s.consumer ≡ Some c → c.geom ≡ 2
  of_taste c found =
      let one : taster ≡ c = one-found (consumer_at w.topology s.consumer) taster c
      (subst (λ m. consumer_at w.topology m ≡ Some taster) tasting.number taster_found) found in
      sym (ap (λ (x : Consumer). x.geom) one) ∙ taster_geom

-- Consumers of DEV or TASTE come or go, and handles and the taste with them: what stood stands, so a firm world stays
-- firm.

-- Graphs

-- a consumer that came to a geom is attached, and has no mark
pub record HasCome (t : Topology Config) (n : ℕ) (c : Consumer) : Type 0 where
  pub geom : c.geom ≡ n
  pub attached : IsSome (option_and_then (provider_at t) c.provider)
  pub unmarked : c.spoiled ≡ false

-- from the one graph to the other only consumers of one geom come or go
pub record Frame (t u : Topology Config) (n : ℕ) : Type 0 where
  pub still : (m : ℕ) (c : Consumer) → consumer_at t m ≡ Some c → c.geom ≢ n → consumer_at u m ≡ Some c
  pub was : (m : ℕ) (c : Consumer) → consumer_at u m ≡ Some c → c.geom ≢ n → consumer_at t m ≡ Some c
  pub come : (c : Consumer) → Contains u.consumers c → Contains t.consumers c ⊎ HasCome t n c
  pub others : (m : ℕ) → m ≢ n → consumers_of u m ≡ consumers_of t m
  pub numbers : AreNumbers (map (λ x. x.number) u.consumers) u.next_consumer

module _ (t : Topology Config) (order : IsInOrder t) (n : ℕ) where
  -- none does
  none_comes : Frame t t n
  none_comes = record {
    still = λ m c e other. e;
    was = λ m c e other. e;
    come = λ c here. inl here;
    others = λ m apart. refl;
    numbers = order.consumers;
  }

  -- one comes
  pub came : (p : ℕ) → IsSome (provider_at t p) → Frame t (add_consumer t n (Some p)) n
  came p there = record {
    still = λ m c e other. found-before (λ (x : Consumer). x.number == m) t.consumers _ c e;
    was = λ m c e other.
        elim (cases_eq m t.next_consumer) [
          | inl same ↦
              (let one = one-found (consumer_at (add_consumer t n (Some p)) t.next_consumer)
              (new_consumer t n (Some p)) c (added-consumer.new t n (Some p) order)
              (subst (λ k. consumer_at (add_consumer t n (Some p)) k ≡ Some c) same e) in
              absurd (other (sym (ap (λ (x : Consumer). x.geom) one))))
          | inr apart ↦ sym (added-consumer.others t n (Some p) m apart) ∙ e
        ];
    come = λ c here.
        elim (Contains-push_cases t.consumers (new_consumer t n (Some p)) c here) [
          | inl old ↦ inl old
          | inr new ↦ inr (subst (HasCome t n) new (record { geom = refl; attached = there; unmarked = refl }))
        ];
    others = λ m apart. added-consumer.others_of t n (Some p) m apart;
    numbers = (added-consumer.order t n (Some p) order).consumers;
  }

  module _ (d : Consumer) (here : Contains t.consumers d) (own : d.geom ≡ n) where
    -- a consumer of another geom isn't the one that goes
    apart_by_geom : (m : ℕ) (c : Consumer) → consumer_at t m ≡ Some c → c.geom ≢ n → m ≢ d.number
    apart_by_geom m c e other same =
        let one : d ≡ c = one-found (consumer_at t d.number) d c
        (found_itself (λ (x : Consumer). x.number) t.next_consumer t.consumers d order.consumers here)
        (subst (λ k. consumer_at t k ≡ Some c) same e) in
        other (sym (ap (λ (x : Consumer). x.geom) one) ∙ own)

    -- one goes
    pub went : Frame t (remove_consumer t d.number) n
    went = record {
      still = λ m c e other. removed-consumer.others t d.number m (apart_by_geom m c e other) ∙ e;
      was = λ m c e other.
          elim (cases_eq m d.number) [
            | inl same ↦
                (let gone : consumer_at (remove_consumer t d.number) m ≡ None =
                subst (λ k. consumer_at (remove_consumer t d.number) k ≡ None) (sym same)
                (removed-consumer.gone t d.number) in
                absurd (let no : ⊥ = cc in no))
            | inr apart ↦ sym (removed-consumer.others t d.number m apart) ∙ e
          ];
      come = λ c among. inl (filter-Contains (λ (x : Consumer). not (x.number == d.number)) t.consumers c among).0;
      others = λ m other.
          removed-consumer.of t d.number m
          ∙ keeps_all (λ (y : Consumer). not (y.number == d.number)) (consumers_of t m)
          (All-from_contained (λ (y : Consumer). not (y.number == d.number) ≡ true) (consumers_of t m) (λ y among.
          let kept = filter-Contains (λ (x : Consumer). x.geom == m) t.consumers y among in
          ap not (ne_eqb y.number d.number (apart_by_geom y.number y
          (found_itself (λ (x : Consumer). x.number) t.next_consumer t.consumers y order.consumers kept.0)
          (λ same. other (sym (eqb-true y.geom m kept.1) ∙ same))))));
      numbers = (removed-consumer.order t d.number order).consumers;
    }

-- a fact of a consumer that is still found
pub fact_still : (t u : Topology Config) (P : Consumer → Type 0)
    → ((m : ℕ) (c : Consumer) → consumer_at t m ≡ Some c → P c → consumer_at u m ≡ Some c)
    → (o : Option ℕ) → IsSomeAnd (option_and_then (consumer_at t) o) P → IsSomeAnd (option_and_then (consumer_at u) o) P
fact_still t u P still None fact = fact
fact_still t u P still (Some m) fact =
    let c = found-with (consumer_at t m) P fact in
    some-with (consumer_at u m) P c.item (still m c.item c.is c.fact) c.fact

-- where consumers of DEV are still found, each handle has its consumer
pub has_its-still : (t u : Topology Config)
    → ((m : ℕ) (c : Consumer) → consumer_at t m ≡ Some c → c.geom ≡ 1 → consumer_at u m ≡ Some c)
    → (h : Handle) → HasItsConsumer t h → HasItsConsumer u h
has_its-still t u still h = by h.consumer where
  -- by its consumer
  by : (o : Option ℕ) → MatchOption o (h.dead ≡ true) (λ c. IsSomeAnd (consumer_at t c) (λ x. x.geom ≡ 1))
      → MatchOption o (h.dead ≡ true) (λ c. IsSomeAnd (consumer_at u c) (λ x. x.geom ≡ 1))
  by None fact = fact
  by (Some m) fact = fact_still t u (λ x. x.geom ≡ 1) still (Some m) fact

-- Worlds

-- a world with the consumers, the handles and the taste of another
abbrev pub framed : World → World → World
framed w v = record w {
  topology = record w.topology { consumers = v.topology.consumers; next_consumer = v.topology.next_consumer };
  handles = v.handles;
  next_handle = v.next_handle;
  taste = v.taste;
}

-- what is to be shown of it: of its counts, where a provider of a geom that withers and is closed stays closed, of its
-- handles and taste, and of its bios
pub record IsFramed (w v : World) : Type 0 where
  pub ranks : RanksHold v.topology
  pub counts : CountsHold (granted_in v) v.topology
  pub closed : (p : Provider) (g : Geom Config) → Contains w.topology.providers p → geom_at w.topology p.geom ≡ Some g
      → g.withering ≡ true → is_zero (have (granted_in w) w.topology p.number) ≡ true
      → is_zero (have (granted_in v) v.topology p.number) ≡ true
  pub handles : HandlesHold v.topology v.handles v.next_handle v.taste
  pub sources : (x : Bio) → Contains w.bios x → (c : Consumer) → consumer_at w.topology x.source ≡ Some c
      → HasCountFor (granted_in w) w.topology x c
      → (consumer_at v.topology x.source ≡ Some c) × HasCountFor (granted_in v) v.topology x c
  pub owners : (x : Bio) → Contains w.bios x → ComesFromItsOwner w.handles w.taste x x.owner
      → ComesFromItsOwner v.handles v.taste x x.owner
  pub read_out : IsTrue (list_any (λ x. is_taste_root x.owner) w.bios)
      ↔ IsTrue (option_map_or (λ s. is_read_out s.asked) v.taste false)
  pub taste : IfSome v.taste (IsTasteInOrder v.topology)
  pub asked : IfSome v.taste (λ s. IfSome (provider_at v.topology s.provider)
      (λ p. IsAskedInOrder v.topology p s.asked))

-- what isn't false then wasn't before
not_before : (a b : Bool) → (a ≡ true → b ≡ true) → b ≡ false → a ≡ false
not_before true b so e = from_true_false (sym (so refl) ∙ e)
not_before false b so e = refl

-- a consumer of the geom, over what is wide enough
abbrev pub IsOver : Topology Config → Geom Config → Provider → Spot → Consumer → Type 0
IsOver t g p spot c =
    (c.geom ≡ g.number) × IsSomeAnd (option_and_then (provider_at t) c.provider)
    (λ q. (spot.offset < q.size) × (q.sector ≡ p.sector))

-- where the provider is open or the geom stands upright, it is that of a disk or is placed
abbrev pub Leads : (ℕ → Counts) → Topology Config → Provider → Geom Config → Type 0
Leads granted t p g =
    (is_zero (have granted t p.number) ≡ false) ⊎ (g.withering ≡ false) → IsSome (disk_of g.config) ⊎ IsPlaced t g p

-- an attached consumer of the geom
abbrev pub IsPart : Geom Config → Consumer → Type 0
IsPart g c = (c.geom ≡ g.number) × IsSome c.provider

-- a place of this size fits over the consumer, if it is one of the geom
abbrev pub FitsOver : Topology Config → ℕ → ℕ → Consumer → Type 0
FitsOver t g size c =
    c.geom ≡ g → IfSome (option_and_then (provider_at t) c.provider) (λ q. (size ≤ q.size) × (size % q.sector ≡ 0))

module _ (w : World) (firm : Firm w) (v : World) (n : ℕ) (bare : (n ≡ 1) ⊎ (n ≡ 2))
    (frame : Frame w.topology v.topology n) where
  -- the graph before
  abbrev t : Topology Config
  t = w.topology

  -- and then
  abbrev u : Topology Config
  u = (framed w v).topology

  -- what is granted then
  abbrev after : ℕ → Counts
  after = granted_in (framed w v)

  -- a geom is found at its number
  geom_found : (g : Geom Config) → Contains t.geoms g → geom_at t g.number ≡ Some g
  geom_found g here = found_itself (λ (x : Geom Config). x.number) t.next_geom t.geoms g firm.graph.numbers.geoms here

  -- DEV and TASTE have no configuration, so what holds of none holds of theirs
  of_nothing : (P : Config → Type 0) (g : Geom Config) → geom_at t g.number ≡ Some g → g.number ≡ n → P Nothing
      → P g.config
  of_nothing P g found same fact =
      subst P (sym (bare_config w firm n bare g (subst (λ m. geom_at t m ≡ Some g) same found))) fact

  -- where no rank of another geom rises, the taste is in order
  pub taste-still : ((g : ℕ) → g ≢ n → rank u g ≤ rank t g) → (o : Option Taste) → IfSome o (IsTasteInOrder t)
      → IfSome o (IsTasteInOrder u)
  taste-still lower None fact = tt
  taste-still lower (Some s) fact =
      let g = found-with (geom_of_provider t s.provider) (λ g. rank t g.number < UNTASTED_RANK) fact.rank in
      record {
        rank = some-with (geom_of_provider t s.provider) (λ g. rank u g.number < UNTASTED_RANK) g.item g.is
            (let low = lower g.item.number (offers g.item (provider_at t s.provider) refl g.is) in
            let below = g.fact in omega arith);
        reads = fact.reads;
        chain = fact.chain;
      }
    where
      -- a geom with a provider is another one
      offers : (g : Geom Config) (o : Option Provider) → provider_at t s.provider ≡ o
          → option_and_then (λ (x : Provider). geom_at t x.geom) o ≡ Some g → g.number ≢ n
      offers g None e is same = absurd (let no : ⊥ = cc in no)
      offers g (Some x) e is same =
          not_of_bare w firm n bare x (find-Contains (λ (y : Provider). y.number == s.provider) t.providers x e)
          (sym (number_found (λ (y : Geom Config). y.number) t.geoms x.geom g is) ∙ same)

  -- Places

  -- a place of another geom is still inside, and so is each offset
  placed : (g : Geom Config) (p : Provider) → g.number ≢ n → IsPlaced t g p → IsPlaced u g p
  placed g p other old o short =
      some_weaker (IsPlaceInside t g p) (IsPlaceInside u g p)
      (λ spot. fact_still t u (IsOver t g p spot)
      (λ m c e over. frame.still m c e (λ same. other (sym over.0 ∙ same)))
      (component g.config spot.component))
      (place g.config p.name o) (old o short)

  -- each place of such a geom fits
  fits_place : (g : Geom Config) → g.number ≢ n → (o : Option ℕ) (size : ℕ) → FitsPlace t g.number o size
      → FitsPlace u g.number o size
  fits_place g other None size fact = tt
  fits_place g other (Some m) size fact =
      if-found (consumer_at u m) (FitsOver t g.number size)
      (λ c e own. at-found (consumer_at t m) (FitsOver t g.number size) c
      (frame.was m c e (λ same. other (sym own ∙ same))) fact own)

  -- DEV and TASTE have no places, and each other geom's fit
  fits_places : (g : Geom Config) → Contains t.geoms g → FitsPlaces t g → FitsPlaces u g
  fits_places g here fact =
      elim (cases_eq g.number n) [
        | inl same ↦
            of_nothing (λ c. AllZip (FitsPlace u g.number) (places_of c) (sizes_of c)) g (geom_found g here) same tt
        | inr other ↦
            zip_members (FitsPlace t g.number) (FitsPlace u g.number) (places_of g.config) (sizes_of g.config)
            (λ a b here. fits_place g other a b) fact
      ]

  -- a fact of each consumer that was there, and of one that comes
  each : (P : Consumer → Type 0) → All P t.consumers → ((c : Consumer) → HasCome t n c → P c) → All P u.consumers
  each P facts new =
      all_of P u.consumers (λ c here.
      elim (frame.come c here) [
        | inl old ↦ All-contains P t.consumers c facts old
        | inr one ↦ new c one
      ])

  -- one that comes fits below, since its geom asks nothing
  fits_below : (c : Consumer) → HasCome t n c → FitsBelow u c
  fits_below c new =
      if-found (geom_at t c.geom)
      (λ g. IfSome (option_and_then (provider_at t) c.provider) (λ q. IsWholeIn g.config q.sector)) (λ g e.
      let number = number_found (λ (x : Geom Config). x.number) t.geoms c.geom g e in
      if-any (option_and_then (provider_at t) c.provider) (λ q. IsWholeIn g.config q.sector) (λ q.
      of_nothing (λ config. IsWholeIn config q.sector) g (subst (λ m. geom_at t m ≡ Some g) (sym number) e)
      (number ∙ new.geom) tt))

  module _ (is : IsFramed w (framed w v)) where
    -- a provider of a geom that withers was open if it is
    was_open : (p : Provider) (g : Geom Config) → Contains t.providers p → geom_at t p.geom ≡ Some g
        → g.withering ≡ true → is_zero (have after u p.number) ≡ false
        → is_zero (have (granted_in w) t p.number) ≡ false
    was_open p g here of withers =
        not_before (is_zero (have (granted_in w) t p.number)) (is_zero (have after u p.number))
        (is.closed p g here of withers)

    -- each provider leads down
    leads : (p : Provider) → Contains t.providers p → LeadsDown (granted_in w) t p → LeadsDown after u p
    leads p here old =
        let g = found-with (geom_at t p.geom) (Leads (granted_in w) t p) old in
        some-with (geom_at t p.geom) (Leads after u p) g.item g.is (λ used.
        elim (g.fact (before g.item g.is g.item.withering refl used)) [
          | inl disk ↦ inl disk
          | inr is_placed ↦
              inr (placed g.item p (λ same. not_of_bare w firm n bare p here
              (sym (number_found (λ (x : Geom Config). x.number) t.geoms p.geom g.item g.is) ∙ same)) is_placed)
        ])
      where
        -- it was used so before
        before : (g : Geom Config) → geom_at t p.geom ≡ Some g → (b : Bool) → g.withering ≡ b
            → (is_zero (have after u p.number) ≡ false) ⊎ (g.withering ≡ false)
            → (is_zero (have (granted_in w) t p.number) ≡ false) ⊎ (g.withering ≡ false)
        before g of false stands used = inr stands
        before g of true withers (inl opened) = inl (was_open p g here of withers opened)
        before g of true withers (inr stands) = inr stands

    -- each geom has its components
    has_components : (g : Geom Config) → Contains t.geoms g → HasItsComponents (granted_in w) t g
        → HasItsComponents after u g
    has_components g here old used =
        elim (cases_eq g.number n) [
          | inl same ↦
              of_nothing (λ config. All (λ c. IsSomeAnd (consumer_at u c) (IsPart g)) (components config)) g
              (geom_found g here) same (λ k d short. absurd (omega (arith, short)))
          | inr other ↦
              All-weaker (λ c. IsSomeAnd (consumer_at t c) (IsPart g)) (λ c. IsSomeAnd (consumer_at u c) (IsPart g))
              (λ c. fact_still t u (IsPart g) (λ m x e part. frame.still m x e (λ same. other (sym part.0 ∙ same)))
              (Some c)) (components g.config) (old (before g.withering refl used))
        ]
      where
        -- it was used so before
        before : (b : Bool) → g.withering ≡ b → (g.withering ≡ false) ⊎ IsTrue (has_open_provider after u g)
            → (g.withering ≡ false) ⊎ IsTrue (has_open_provider (granted_in w) t g)
        before false stands used = inl stands
        before true withers (inl stands) = inl stands
        before true withers (inr some) =
            let p = some-passes (λ (p : Provider). not (is_zero (have after u p.number))) (providers_of t g.number)
            some in
            let kept = filter-Contains (λ (x : Provider). x.geom == g.number) t.providers p.item p.here in
            let of : geom_at t p.item.geom ≡ Some g =
            subst (λ m. geom_at t m ≡ Some g) (sym (eqb-true p.item.geom g.number kept.1)) (geom_found g here) in
            inr (any-contained (λ (p : Provider). not (is_zero (have (granted_in w) t p.number)))
            (providers_of t g.number) p.item p.here
            (ap not (was_open p.item g kept.0 of withers (not-true (is_zero (have after u p.item.number)) p.passes))))

    -- each bio is in order
    bio : (x : Bio) → Contains w.bios x → IsBioInOrder after u x
    bio x here =
        let old = All-contains (IsBioInOrder (granted_in w) t) w.bios x firm.bios.order here in
        let c = found-with (consumer_at t x.source)
        (λ c. (c.provider ≡ Some x.target) × HasCountFor (granted_in w) t x c) old.source in
        let so = is.sources x here c.item c.is c.fact.1 in
        record {
          source = some-with (consumer_at u x.source)
              (λ c. (c.provider ≡ Some x.target) × HasCountFor after u x c) c.item so.0 (c.fact.0, so.1);
          target = old.target;
          bytes = old.bytes;
        }

    -- consumers of DEV have no mark
    unmarked : (c : Consumer) → Contains (consumers_of u 1) c → c.spoiled ≡ false
    unmarked c among =
        let kept = filter-Contains (λ (x : Consumer). x.geom == 1) u.consumers c among in
        elim (frame.come c kept.0) [
          | inl old ↦
              All-contains (λ (c : Consumer). c.spoiled ≡ false) (consumers_of t 1) c firm.graph.unmarked
              (Contains-filter (λ (x : Consumer). x.geom == 1) t.consumers c old kept.1)
          | inr new ↦ new.unmarked
        ]

    -- so the world is firm
    pub framed-firm : Firm (framed w v)
    framed-firm = record {
      graph = record {
        ranks = is.ranks;
        providers = record {
          names = firm.graph.providers.names;
          withering = firm.graph.providers.withering;
          sizes = firm.graph.providers.sizes;
        };
        numbers = record {
          geoms = firm.graph.numbers.geoms;
          providers = firm.graph.numbers.providers;
          consumers = frame.numbers;
          classes = firm.graph.numbers.classes;
          one_geom_of_disk = firm.graph.numbers.one_geom_of_disk;
          disk_sizes = firm.graph.numbers.disk_sizes;
        };
        made = firm.graph.made;
        parts = record {
          providers = firm.graph.parts.providers;
          consumers = each (λ (c : Consumer). IsSome (geom_at t c.geom)) firm.graph.parts.consumers
              (λ c new. subst (λ m. IsSome (geom_at t m)) (sym new.geom) (bare_there w firm n bare));
        };
        attached = each (λ (c : Consumer). IsSome (option_and_then (provider_at t) c.provider)) firm.graph.attached
            (λ c new. new.attached);
        partial = firm.graph.partial;
        unmarked = all_of (λ (c : Consumer). c.spoiled ≡ false) (consumers_of u 1) unmarked;
      };
      demand = record {
        counts = is.counts;
        places = all_members (LeadsDown (granted_in w) t) (LeadsDown after u) t.providers leads firm.demand.places;
        components = all_members (HasItsComponents (granted_in w) t) (HasItsComponents after u) t.geoms
            has_components firm.demand.components;
      };
      sizes = record {
        disks = firm.sizes.disks;
        sectors = firm.sizes.sectors;
        wholes = each (FitsBelow u) firm.sizes.wholes fits_below;
        places = all_members (FitsPlaces t) (FitsPlaces u) t.geoms fits_places firm.sizes.places;
        one = firm.sizes.one;
        apart = firm.sizes.apart;
        sums = firm.sizes.sums;
      };
      handles = is.handles;
      taste = record {
        living = firm.taste.living;
        order = is.taste;
        asked = is.asked;
      };
      bios = record {
        numbers = firm.bios.numbers;
        order = all_of (IsBioInOrder after u) w.bios bio;
        families = All-weaker (IsFamilyInOrder t w.bios) (IsFamilyInOrder u w.bios) (λ x old. record {
          parent = old.parent;
          pieces = old.pieces;
          not_complete = old.not_complete;
          root = old.root;
        }) w.bios firm.bios.families;
        disks = record { at_disk = firm.bios.disks.at_disk; one_busy = firm.bios.disks.one_busy };
        read_out = is.read_out;
        owners = all_members (λ x. ComesFromItsOwner w.handles w.taste x x.owner)
            (λ x. ComesFromItsOwner v.handles v.taste x x.owner) w.bios is.owners firm.bios.owners;
        results = firm.bios.results;
        read = record { one = firm.bios.read.one; sector = firm.bios.read.sector };
      };
      commands = firm.commands;
    }

-- a world with the handles and the taste of another
abbrev pub held : World → World → World
held w v = record w { handles = v.handles; next_handle = v.next_handle; taste = v.taste }

-- where all grants are as before, only handles, owners of bios and the taste are to be shown
pub held-firm : (w : World) (firm : Firm w) (v : World) → granted_in (held w v) ≡ granted_in w
    → HandlesHold w.topology v.handles v.next_handle v.taste
    → ((x : Bio) → ComesFromItsOwner w.handles w.taste x x.owner → ComesFromItsOwner v.handles v.taste x x.owner)
    → IsTrue (list_any (λ x. is_taste_root x.owner) w.bios)
    ↔ IsTrue (option_map_or (λ s. is_read_out s.asked) v.taste false)
    → IfSome v.taste (IsTasteInOrder w.topology)
    → IfSome v.taste (λ s. IfSome (provider_at w.topology s.provider) (λ p. IsAskedInOrder w.topology p s.asked))
    → Firm (held w v)
held-firm w firm v same handles owners read_out taste asked =
    framed-firm w firm (held w v) 1 (inl refl) (none_comes w.topology (sound-order w firm.graph.numbers) 1) (record {
      ranks = firm.graph.ranks;
      counts = subst (λ (G : ℕ → Counts). CountsHold G w.topology) (sym same) firm.demand.counts;
      closed = λ p g here of withers zero.
          subst (λ (G : ℕ → Counts). is_zero (have G w.topology p.number) ≡ true) (sym same) zero;
      handles = handles;
      sources = λ x here c e counts. (e, subst (λ (G : ℕ → Counts). HasCountFor G w.topology x c) (sym same) counts);
      owners = λ x here. owners x;
      read_out = read_out;
      taste = taste;
      asked = asked;
    })

-- A handle that becomes dead: a firm world stays firm.

-- what is granted is the same where it is the same at each number
pub grants-same : (G H : ℕ → Counts) → ((c : ℕ) → G c ≡ H c) → G ≡ H
grants-same G H so = λ i c. so c i

-- a count of items by what a change keeps
count-changed : {X : Type 0} (hit : X → Bool) (change : X → X) (test : X → Bool)
    → ((x : X) → hit x ≡ true → test (change x) ≡ test x)
    → (xs : List X) → count_by test (change_where hit change xs) ≡ count_by test xs
count-changed hit change test same xs =
    sym (length-filter test (change_where hit change xs))
    ∙ ap (λ ys. length ys) (filter-changed hit change test same xs) ∙ length-changed hit change (filter test xs)
    ∙ length-filter test xs

-- a handle that is dead has its consumer, or none
dead_too : (o : Option ℕ) (dead : Bool) (Q : ℕ → Type 0) → MatchOption o (dead ≡ true) Q → MatchOption o (true ≡ true) Q
dead_too None dead Q fact = refl
dead_too (Some c) dead Q fact = fact

module _ (w : World) (firm : Firm w) (c : ℕ) where
  -- whether a handle dies
  abbrev hit : Handle → Bool
  hit h = names_number h.consumer c

  -- a handle that died
  abbrev change : Handle → Handle
  change h = record h { dead = true }

  -- the world after it
  abbrev v : World
  v = kill_handle w c

  -- a grant of what is found
  same_grant : (o : Option Handle) (other : Counts)
      → option_map_or (λ (h : Handle). h.grant) (option_map (changed hit change) o) other
      ≡ option_map_or (λ (h : Handle). h.grant) o other
  same_grant None other = refl
  same_grant (Some h) other = changed-keeps hit change (λ (h : Handle). h.grant) (λ h e. refl) h

  -- all grants are as before
  grants : granted_in v ≡ granted_in w
  grants =
      grants-same (granted_in v) (granted_in w) (λ d.
      ap (λ (o : Option Handle). option_map_or (λ (h : Handle). h.grant) o (taste_grant w.taste d))
      (find-changed hit change (λ (h : Handle). names_number h.consumer d) (λ h e. refl) w.handles)
      ∙ same_grant (find (λ (h : Handle). names_number h.consumer d) w.handles) (taste_grant w.taste d))

  -- each consumer of DEV is that of one handle
  consumer_of_handle : (d : Consumer) → IsHandleConsumer w.handles d → IsHandleConsumer v.handles d
  consumer_of_handle d is = record {
    attached = is.attached;
    one_handle = count-changed hit change (λ (h : Handle). names_number h.consumer d.number) (λ h e. refl) w.handles
        ∙ is.one_handle;
  }

  -- a root comes from its owner
  comes : (x : Bio) (o : Owner) → ComesFromItsOwner w.handles w.taste x o → ComesFromItsOwner v.handles w.taste x o
  comes x (owners.Line handle line) fact =
      let h = found-with (find (λ (h : Handle). h.number == handle) w.handles) (λ h. h.consumer ≡ Some x.source) fact in
      some-with (find (λ (h : Handle). h.number == handle) v.handles) (λ h. h.consumer ≡ Some x.source)
      (changed hit change h.item)
      (find-changed hit change (λ (h : Handle). h.number == handle) (λ h e. refl) w.handles
      ∙ ap (option_map (changed hit change)) h.is)
      (changed-keeps hit change (λ (h : Handle). h.consumer) (λ h e. refl) h.item ∙ h.fact)
  comes x _ fact = fact

  -- so the world is firm
  pub killed-firm : Firm v
  killed-firm =
      held-firm w firm v grants (record {
        numbers = numbers-changed (λ (h : Handle). h.number) hit change (λ h e. refl) w.next_handle w.handles
            firm.handles.numbers;
        consumers = All-weaker (IsHandleConsumer w.handles) (IsHandleConsumer v.handles) consumer_of_handle
            (consumers_of w.topology 1) firm.handles.consumers;
        handles = All-from_recursion (HasItsConsumer w.topology) v.handles
            (all-changed hit change (HasItsConsumer w.topology)
            (λ h e fact. dead_too h.consumer h.dead (λ d. IsSomeAnd (consumer_at w.topology d) (λ x. x.geom ≡ 1))
            fact) w.handles (recursion_from_All (HasItsConsumer w.topology) w.handles firm.handles.handles));
        taste = firm.handles.taste;
      })
      (λ x. comes x x.owner) firm.bios.read_out firm.taste.order firm.taste.asked

-- so where some die
pub all_killed-firm : (cs : List ℕ) (w : World) → Firm w → Firm (fold kill_handle w cs)
all_killed-firm [] w firm = firm
all_killed-firm (c ∷ cs) w firm = all_killed-firm cs (kill_handle w c) (killed-firm w firm c)
