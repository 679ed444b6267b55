-- The changes of one thing that keep the ranks of a sound world.
use Rattle.std.specs.Prelude.{◌+◌, option_map, ◌≡◌, ◌≢◌, ◌⊎◌, ℕ, ◌≤◌, ◌==◌, Bool, true, false, not, List, [], ◌∷◌, filter, Option, Some, None, All, IsSome, IsSomeAnd}
use Rattle.std.proofs.Common.{inl, inr, refl, sym, ◌∙◌, ap, subst, arith, le_of_eq}
use Rattle.std.proofs.lemmas.List.Elements.{All-push, All-weaker, All-filter, recursion_from_All, All-from_recursion}
use Rattle.std.proofs.lemmas.Bool.{cases_eq}
use Rattle.geo_model.specs.Kind.{Kind}
use Rattle.geo_model.specs.TheConstants.{MAX_RANK}
use Rattle.geo_model.specs.GeomCommands.{with_geom_at, rank_over}
use Rattle.geo_laws_graph.proofs.Members.{has}
use Rattle.geo_laws_graph.proofs.Depth.{depth}
use Rattle.geo_model.specs.Words.{change_where}
use Rattle.geo_model.specs.Topology.{attach, add_geom, Topology, Geom, Provider, geom_at, provider_at, add_provider, add_consumer, remove_geom, remove_provider, remove_consumer, set_error, set_size, set_withering, set_marks}
use Rattle.geo_model.specs.Rank.{rank}
use Rattle.geo_model.specs.World.{Config}
use Rattle.geo_model.specs.Sound.{RanksHold, StandsBare}
use Rattle.geo_model.specs.Graph.{GeomsLive, OfferersLive, IsInOrder}
use Rattle.geo_laws_graph.proofs.Lists.{changed, changed-keeps, find-changed, all-changed}
use Rattle.geo_laws_graph.proofs.Living.{found-before, remove_consumer-geoms, remove_consumer-providers}
use Rattle.geo_laws_graph.proofs.Found.{added-provider, removed-provider, removed-geom, error-found, size_found, withering-found}
use Rattle.geo_laws_graph.specs.RankLaws.{RanksStay, AllRanksStay}
use Rattle.geo_laws_graph.specs.RankChangeLaws.{OneRankRises, SoundRanksStay}
use Rattle.geo_laws_graph.proofs.Attaching.{removed-edges}
use Rattle.geo_laws_graph.proofs.EdgeRanks.{ranked-live, fewer-edges}
use Rattle.geo_laws_graph.proofs.RankChanges.{attach-accepted, plain-stay, adding-stay, removing-stay}
use Rattle.geo_laws_graph.proofs.Opens.{over, open-rises, made-ranks, rank-next}

-- a geom that isn't too deep
abbrev IsShallow : Topology Config → Geom Config → Type 0
IsShallow t x = x.number ≢ 1 → x.number ≢ 2 → rank t x.number ≤ MAX_RANK

-- with no greater ranks geoms are no deeper
shallower : (t u : Topology Config) → ((g : ℕ) → g ≢ 1 → g ≢ 2 → rank u g ≤ rank t g) → (xs : List (Geom Config))
    → All (IsShallow t) xs → All (IsShallow u) xs
shallower t u less xs low =
    All-weaker (IsShallow t) (IsShallow u) (λ x so apart other. let a = so apart other in let b =
    less x.number apart other in omega arith) xs low

-- a geom that stands without withering is there
there : (o : Option (Geom Config)) → IsSomeAnd o (λ x. x.withering ≡ false) → IsSome o
there None fact = absurd fact
there (Some x) fact = refl

-- DEV or TASTE gets a consumer
opened : (t : Topology Config) (geom p : ℕ) (x : Provider) → (geom ≡ 1) ⊎ (geom ≡ 2) → RanksHold t → GeomsLive t
    → provider_at t p ≡ Some x → RanksHold (add_consumer t geom (Some p))
opened t geom p x which hold live found = by which (bare which) where
  -- DEV or TASTE, whichever it is, stands bare
  bare : (geom ≡ 1) ⊎ (geom ≡ 2) → StandsBare t geom
  bare (inl e) = rw e hold.dev
  bare (inr e) = rw e hold.taste

  -- so with the new consumer the ranks hold
  by : (geom ≡ 1) ⊎ (geom ≡ 2) → StandsBare t geom → RanksHold (add_consumer t geom (Some p))
  by which stands =
      let rise = open-rises t geom p x hold.ranked live (there (geom_at t geom) stands.stands)
      stands.no_provider found in
      record {
        ranked = rise.0.ranked;
        not_deep = shallower t (add_consumer t geom (Some p))
            (λ g apart other. le_of_eq (rise.0.same g (λ same. elim which [
              | inl e ↦
                  apart (same ∙ e)
              | inr e ↦ other (same ∙ e)
            ])))
            t.geoms hold.not_deep;
        dev = record { stands = hold.dev.stands; no_provider = hold.dev.no_provider };
        taste = record { stands = hold.taste.stands; no_provider = hold.taste.no_provider };
      }

-- DEV and TASTE stay bare
bare_with_provider : (t : Topology Config) (geom : ℕ) (name : List ℕ) (size sector g : ℕ) → g ≢ geom
    → StandsBare t g → StandsBare (add_provider t geom name size sector) g
bare_with_provider t geom name size sector g apart bare =
    record {
      stands = bare.stands;
      no_provider = added-provider.others_of t geom name size sector g apart
          ∙ bare.no_provider;
    }

-- a bare geom stays so where a provider goes
bare_without_provider : (t : Topology Config) (p g : ℕ) → StandsBare t g → StandsBare (remove_provider t p) g
bare_without_provider t p g bare =
    record {
      stands = bare.stands;
      no_provider = removed-provider.of t p g
          ∙ ap (filter (λ (x : Provider). not (x.number == p))) bare.no_provider;
    }

-- where another geom goes
bare_without_geom : (t : Topology Config) (h g : ℕ) → g ≢ h → StandsBare t g → StandsBare (remove_geom t h) g
bare_without_geom t h g apart bare =
    record {
      stands = subst (λ (o : Option (Geom Config)). IsSomeAnd o (λ x. x.withering ≡ false))
          (sym (removed-geom.others t h g apart)) bare.stands;
      no_provider = bare.no_provider;
    }

-- where a provider has an error
bare_with_error : (t : Topology Config) (p g : ℕ) → StandsBare t g → StandsBare (set_error t p) g
bare_with_error t p g bare =
    record {
      stands = bare.stands;
      no_provider = error-found.of t p g
          ∙ ap (change_where (λ (x : Provider). x.number == p) (λ x. record x { errored = true })) bare.no_provider;
    }

-- where a provider has another media size
bare_with_size : (t : Topology Config) (p size g : ℕ) → StandsBare t g → StandsBare (set_size t p size) g
bare_with_size t p size g bare =
    record {
      stands = bare.stands;
      no_provider = size_found.of t p size g
          ∙ ap (change_where (λ (x : Provider). x.number == p) (λ x. record x { size = size })) bare.no_provider;
    }

-- and where another geom withers
bare_beside : (t : Topology Config) (h g : ℕ) → g ≢ h → StandsBare t g → StandsBare (set_withering t h) g
bare_beside t h g apart bare =
    record {
      stands = subst (λ (o : Option (Geom Config)). IsSomeAnd o (λ x. x.withering ≡ false))
          (sym (withering-found.others t h g apart)) bare.stands;
      no_provider = bare.no_provider;
    }

-- numbers that differ, differ the other way round too
apart_from : (g h : ℕ) → h ≢ g → g ≢ h
apart_from g h apart same = apart (sym same)

-- a bare geom stays so where a geom is added
bare_with_geom : (t : Topology Config) (kind : Kind) (name : List ℕ) (config : Config) (automatic : Bool) (g : ℕ)
    → StandsBare t g → StandsBare (add_geom t kind name config automatic) g
bare_with_geom t kind name config automatic g bare =
    let x = has (geom_at t g) (there (geom_at t g) bare.stands) in
    let is : geom_at t g ≡ Some x.item = x.is in
    let still : geom_at (add_geom t kind name config automatic) g ≡ Some x.item =
    found-before (λ (y : Geom Config). y.number == g) t.geoms _ x.item is in
    let upright : x.item.withering ≡ false = rw is at bare.stands in
    record { stands = rw still upright; no_provider = bare.no_provider }

-- the new geom has rank 1
geom_added : (t : Topology Config) (kind : Kind) (name : List ℕ) (config : Config) (automatic : Bool) → RanksHold t
    → GeomsLive t → IsInOrder t
    → RanksHold (add_geom t kind name config automatic)
geom_added t kind name config automatic hold live order =
    let stay : RanksStay t (add_geom t kind name config automatic) =
    adding-stay.geom t kind name config automatic hold.ranked live in
    record {
      ranked = stay.ranked;
      not_deep = All-push (IsShallow (add_geom t kind name config automatic)) t.geoms _
          (shallower t (add_geom t kind name config automatic) (λ g a b. le_of_eq (stay.same g)) t.geoms
          hold.not_deep)
          (λ apart other. let one : rank (add_geom t kind name config automatic) t.next_geom ≡ 1 =
          stay.same t.next_geom ∙ rank-next t order hold.ranked live in omega arith);
      dev = bare_with_geom t kind name config automatic 1 hold.dev;
      taste = bare_with_geom t kind name config automatic 2 hold.taste;
    }

-- consumers change neither geoms nor providers
pub over_bare : (n g : ℕ) (ps : List Provider) (u : Topology Config) → StandsBare u g → StandsBare (over n u ps) g
over_bare n g [] u bare = bare
over_bare n g (p ∷ ps) u bare =
    over_bare n g ps (add_consumer u n (Some p.number)) (record {
      stands = bare.stands;
      no_provider = bare.no_provider;
    })

-- so the geoms are as before
over_geoms : (n : ℕ) (ps : List Provider) (u : Topology Config) → (over n u ps).geoms ≡ u.geoms
over_geoms n [] u = refl
over_geoms n (p ∷ ps) u = over_geoms n ps (add_consumer u n (Some p.number))

-- a geom over some providers, where they aren't too deep
geom_made : (t : Topology Config) (kind : Kind) (name : List ℕ) (config : Config) (ps : List Provider)
    → RanksHold t → GeomsLive t → OfferersLive t → IsInOrder t
    → All (λ (p : Provider). provider_at t p.number ≡ Some p) ps → rank_over t ps ≤ MAX_RANK
    → RanksHold (with_geom_at t kind name config ps)
geom_made t kind name config ps hold live offerers order found low =
    let rise = made-ranks t kind name config ps hold.ranked live offerers order found in
    record {
      ranked = rise.0.ranked;
      not_deep = subst (λ (xs : List (Geom Config)). All (IsShallow (with_geom_at t kind name config ps)) xs)
          (sym (over_geoms t.next_geom ps (add_geom t kind name config false)))
          (All-push (IsShallow (with_geom_at t kind name config ps)) t.geoms _
          (All-weaker (IsShallow t) (IsShallow (with_geom_at t kind name config ps)) (λ x so apart other.
          deep_at rise.0 rise.1 x.number (so apart other)) t.geoms hold.not_deep)
          (λ apart other. let top : rank (with_geom_at t kind name config ps) t.next_geom ≡ rank_over t ps =
          rise.1 in omega arith));
      dev = over_bare t.next_geom 1 ps (add_geom t kind name config false)
          (bare_with_geom t kind name config false 1 hold.dev);
      taste = over_bare t.next_geom 2 ps (add_geom t kind name config false)
          (bare_with_geom t kind name config false 2 hold.taste);
    }
  where
    -- a geom within the limit stays so once the new one stands
    deep_at : OneRankRises t (with_geom_at t kind name config ps) t.next_geom
        → rank (with_geom_at t kind name config ps) t.next_geom ≡ rank_over t ps
        → (g : ℕ) → rank t g ≤ MAX_RANK → rank (with_geom_at t kind name config ps) g ≤ MAX_RANK
    deep_at rise top g less =
        elim (cases_eq g t.next_geom) [
          | inl same ↦
              let at : rank (with_geom_at t kind name config ps) g ≡ rank_over t ps =
              ap (rank (with_geom_at t kind name config ps)) same ∙ top in
              omega arith
          | inr apart ↦
              let at : rank (with_geom_at t kind name config ps) g ≡ rank t g = rise.same g apart in omega arith
        ]

-- a geom that is changed but keeps its number, and doesn't wither
upright_map : (f : Geom Config → Geom Config) → ((x : Geom Config) → (f x).withering ≡ x.withering)
    → (o : Option (Geom Config))
    → IsSomeAnd o (λ x. x.withering ≡ false) → IsSomeAnd (option_map f o) (λ x. x.withering ≡ false)
upright_map f same None fact = fact
upright_map f same (Some x) fact = same x ∙ fact

module _ (t : Topology Config) (hit : Geom Config → Bool) (change : Geom Config → Geom Config)
    (same : (x : Geom Config) → hit x ≡ true → (change x).number ≡ x.number) (upright : (x : Geom Config)
    → hit x ≡ true → (change x).withering ≡ x.withering) where
  -- the graph with these geoms changed
  abbrev after : Topology Config
  after = record t { geoms = change_where hit change t.geoms }

  -- a bare geom stays so
  bare_changed : (g : ℕ) → StandsBare t g → StandsBare after g
  bare_changed g bare =
      record {
        stands = subst (λ (o : Option (Geom Config)). IsSomeAnd o (λ x. x.withering ≡ false))
            (sym (find-changed hit change (λ (x : Geom Config). x.number == g)
            (λ x e. ap (λ n. n == g) (same x e)) t.geoms))
            (upright_map (changed hit change) (changed-keeps hit change (λ (x : Geom Config). x.withering) upright)
            (geom_at t g) bare.stands);
        no_provider = bare.no_provider;
      }

  -- and the ranks hold, where none changes
  changed_hold : AllRanksStay t after → RanksHold t → RanksHold after
  changed_hold stay hold =
      record {
        ranked = stay.ranked hold.ranked;
        not_deep = shallower t after (λ h a b. le_of_eq (stay.same h)) after.geoms
            (All-from_recursion (IsShallow t) after.geoms
            (all-changed hit change (IsShallow t) (λ x e fact. subst (λ (n : ℕ). n ≢ 1 → n ≢ 2
            → rank t n ≤ MAX_RANK) (sym (same x e)) fact) t.geoms
            (recursion_from_All (IsShallow t) t.geoms hold.not_deep)));
        dev = bare_changed 1 hold.dev;
        taste = bare_changed 2 hold.taste;
      }

-- all of these changes keep the ranks of a sound world
pub sound-ranks : SoundRanksStay
sound-ranks = record {
  opened = opened;
  consumer_removed = λ t c hold live.
      let fewer = fewer-edges t (remove_consumer t c) hold.ranked (remove_consumer-geoms t c live)
      (remove_consumer-providers t c (ranked-live t hold.ranked)) (removed-edges t c) in
      record {
        ranked = fewer.0;
        not_deep = shallower t (remove_consumer t c) (λ g apart other. fewer.1 g) t.geoms hold.not_deep;
        dev = record { stands = hold.dev.stands; no_provider = hold.dev.no_provider };
        taste = record { stands = hold.taste.stands; no_provider = hold.taste.no_provider };
      };
  provider_added = λ t geom name size sector other hold live.
      let stay = adding-stay.provider t geom name size sector hold.ranked live in
      record {
        ranked = stay.ranked;
        not_deep = shallower t (add_provider t geom name size sector) (λ g a b. le_of_eq (stay.same g)) t.geoms
            hold.not_deep;
        dev = bare_with_provider t geom name size sector 1 (apart_from 1 geom other.0) hold.dev;
        taste = bare_with_provider t geom name size sector 2 (apart_from 2 geom other.1) hold.taste;
      };
  provider_removed = λ t p hold live none.
      let stay = removing-stay.provider t p hold.ranked live none in
      record {
        ranked = stay.ranked;
        not_deep = shallower t (remove_provider t p) (λ g a b. le_of_eq (stay.same g)) t.geoms hold.not_deep;
        dev = bare_without_provider t p 1 hold.dev;
        taste = bare_without_provider t p 2 hold.taste;
      };
  geom_removed = λ t g other hold live none.
      let stay = removing-stay.geom t g hold.ranked live none in
      record {
        ranked = stay.ranked;
        not_deep = shallower t (remove_geom t g) (λ h a b. le_of_eq (stay.same h)) (remove_geom t g).geoms
            (All-filter (λ (x : Geom Config). not (x.number == g)) (IsShallow t) t.geoms hold.not_deep);
        dev = bare_without_geom t g 1 (apart_from 1 g other.0) hold.dev;
        taste = bare_without_geom t g 2 (apart_from 2 g other.1) hold.taste;
      };
  errored = λ t p hold.
      let stay : AllRanksStay t (set_error t p) = plain-stay.error t p in
      record {
        ranked = stay.ranked hold.ranked;
        not_deep = shallower t (set_error t p) (λ g a b. le_of_eq (stay.same g)) t.geoms hold.not_deep;
        dev = bare_with_error t p 1 hold.dev;
        taste = bare_with_error t p 2 hold.taste;
      };
  sized = λ t p size hold.
      let stay : AllRanksStay t (set_size t p size) = plain-stay.size t p size in
      record {
        ranked = stay.ranked hold.ranked;
        not_deep = shallower t (set_size t p size) (λ g a b. le_of_eq (stay.same g)) t.geoms hold.not_deep;
        dev = bare_with_size t p size 1 hold.dev;
        taste = bare_with_size t p size 2 hold.taste;
      };
  withering = λ t g other hold.
      let stay : AllRanksStay t (set_withering t g) = plain-stay.withering t g in
      record {
        ranked = stay.ranked hold.ranked;
        not_deep = shallower t (set_withering t g) (λ h a b. le_of_eq (stay.same h)) (set_withering t g).geoms
            (All-from_recursion (IsShallow t) (set_withering t g).geoms
            (all-changed (λ (x : Geom Config). x.number == g) (λ x. record x { withering = true }) (IsShallow t)
            (λ x e fact. fact) t.geoms
            (recursion_from_All (IsShallow t) t.geoms hold.not_deep)));
        dev = bare_beside t g 1 (apart_from 1 g other.0) hold.dev;
        taste = bare_beside t g 2 (apart_from 2 g other.1) hold.taste;
      };
  marked = λ t test mark hold.
      let stay : AllRanksStay t (set_marks t test mark) = plain-stay.marks t test mark in
      record {
        ranked = stay.ranked hold.ranked;
        not_deep = shallower t (set_marks t test mark) (λ g a b. le_of_eq (stay.same g)) t.geoms hold.not_deep;
        dev = record { stands = hold.dev.stands; no_provider = hold.dev.no_provider };
        taste = record { stands = hold.taste.stands; no_provider = hold.taste.no_provider };
      };
  geom_added = geom_added;
  geom_made = geom_made;
  consumer_added = λ t geom hold live lives.
      let stay = adding-stay.consumer t geom hold.ranked live lives in
      record {
        ranked = stay.ranked;
        not_deep = shallower t (add_consumer t geom None) (λ g a b. le_of_eq (stay.same g)) t.geoms hold.not_deep;
        dev = record { stands = hold.dev.stands; no_provider = hold.dev.no_provider };
        taste = record { stands = hold.taste.stands; no_provider = hold.taste.no_provider };
      };
  attached = λ t c p can hold live order classes none.
      let accepted = attach-accepted t c p can hold.ranked live order none in
      record {
        ranked = accepted.0.ranked;
        not_deep = (depth (attach t c p) classes).0 accepted.1;
        dev = record { stands = hold.dev.stands; no_provider = hold.dev.no_provider };
        taste = record { stands = hold.taste.stands; no_provider = hold.taste.no_provider };
      };
  configured = λ t g config hold.
      changed_hold t (λ x. x.number == g) (λ x. record x { config = config }) (λ x e. refl) (λ x e. refl)
      (plain-stay.config t g config) hold;
  started = λ t g hold.
      changed_hold t (λ x. x.number == g) (λ x. record x { started = x.started + 1 }) (λ x e. refl) (λ x e. refl)
      (plain-stay.started t g) hold;
}

-- what `sound_ranks_stay` says
pub ruleset sound_ranks_stay = (sound-ranks)
