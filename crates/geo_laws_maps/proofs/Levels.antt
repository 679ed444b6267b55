-- As many levels as there are geoms are enough for the ways of a closed set, so the map of a provider is made of
-- those of the providers below.
use Rattle.std.specs.Prelude.{◌≡◌, ℕ, zero, suc, ◌+◌, ◌<◌, ◌≤◌, ◌==◌, nat_le, Bool, true, false, length, filter, Some, Contains, option_and_then}
use Rattle.std.proofs.Common.{refl, sym, ◌∙◌, ap, subst, arith}
use Rattle.std.proofs.lemmas.Bool.{leb-true, le-leb}
use Rattle.std.proofs.lemmas.List.Sums.{length-filter, count_by-le-length}
use Rattle.geo_model.specs.Topology.{Topology, Geom, Provider, Consumer, geom_at, provider_at, provider_of_consumer}
use Rattle.geo_model.specs.Rank.{rank, Ranked}
use Rattle.geo_model.specs.World.{Config}
use Rattle.geo_model.specs.Place.{components, flat_step, flat_within, flat, ends_step, ends_within, ends}
use Rattle.geo_laws_graph.proofs.Members.{find-Contains}
use Rattle.geo_laws_graph.proofs.Numbered.{number_found}
use Rattle.geo_laws_graph.specs.Edges.{Below}
use Rattle.geo_laws_graph.proofs.Climbing.{rank-falls, fewer_pass}
use Rattle.geo_laws_life.proofs.Found.{one-found}
use Rattle.geo_laws_maps.specs.Ways.{LeadsInto, GoesDown, IsWays, IsOpen}
use Rattle.geo_laws_maps.specs.MapLaws.{MapGoesDown}
use Rattle.geo_laws_maps.proofs.Opened.{open-down}
use Rattle.geo_laws_maps.proofs.MapSteps.{flat_level, ends_level, flat_step-same, ends_step-same}

-- How many pass

-- what isn't at most another is more
above_false : (a b : ℕ) → b < a → nat_le a b ≡ false
above_false a b less = by (nat_le a b) refl where
  -- by the test
  by : (c : Bool) → nat_le a b ≡ c → nat_le a b ≡ false
  by true e = absurd (omega (arith, less, leb-true a b e))
  by false e = e

module _ (t : Topology Config) (ranked : Ranked t) (U : ℕ → Type 0) (ways : IsWays t U) where
  -- how many geoms have no higher rank
  height : ℕ → ℕ
  height g = length (filter (λ (x : Geom Config). nat_le (rank t x.number) (rank t g)) t.geoms)

  -- no more than there are
  height-most : (g : ℕ) → height g ≤ length t.geoms
  unfolding height
  height-most g =
      subst (λ n. n ≤ length t.geoms)
      (sym (length-filter (λ (x : Geom Config). nat_le (rank t x.number) (rank t g)) t.geoms))
      (count_by-le-length (λ (x : Geom Config). nat_le (rank t x.number) (rank t g)) t.geoms)

  -- fewer below a geom that stands
  height-falls : (g : Geom Config) (h : ℕ) → Contains t.geoms g → rank t h < rank t g.number
      → height h < height g.number
  unfolding height
  height-falls g h stands less =
      fewer_pass (λ (x : Geom Config). nat_le (rank t x.number) (rank t h))
      (λ (x : Geom Config). nat_le (rank t x.number) (rank t g.number))
      (λ x e. le-leb (rank t x.number) (rank t g.number)
      (omega (arith, less, leb-true (rank t x.number) (rank t h) e)))
      t.geoms g stands (above_false (rank t g.number) (rank t h) less)
      (le-leb (rank t g.number) (rank t g.number) (omega arith))

  -- the height of the geom of a provider
  abbrev height_of : (p : ℕ) → U p → ℕ
  height_of p inside = height (ways p inside).geom.number

  -- it falls along the way, so it isn't zero
  height-below : (p : ℕ) (inside : U p) (c : ℕ) (among : Contains (components (ways p inside).geom.config) c)
      → height_of ((ways p inside).below c among).under ((ways p inside).below c among).inside < height_of p inside
  height-below p inside c among =
      let down : GoesDown t U p = ways p inside in
      let leads : LeadsInto t U down.geom c = down.below c among in
      let under : GoesDown t U leads.under = ways leads.under leads.inside in
      let edge : Below t down.geom.number under.provider.geom = record {
        consumer = leads.consumer;
        stands = find-Contains (λ (z : Consumer). z.number == c) t.consumers leads.consumer leads.found;
        above = leads.own;
        provider = under.provider;
        attached = ap (option_and_then (provider_at t)) leads.attached ∙ under.found;
        below = refl;
      } in
      let number : under.geom.number ≡ under.provider.geom =
      number_found (λ (z : Geom Config). z.number) t.geoms under.provider.geom under.geom under.of in
      subst (λ n. height n < height down.geom.number) (sym number)
      (height-falls down.geom under.provider.geom
      (find-Contains (λ (z : Geom Config). z.number == down.provider.geom) t.geoms down.geom down.of)
      (rank-falls t ranked down.geom.number under.provider.geom edge))

  -- no geom that stands has height zero
  height-some : (g : Geom Config) → Contains t.geoms g → height g.number ≤ 0 → {A : Type 0} → A
  unfolding height
  height-some g stands none =
      absurd
      (omega (
        arith,
        none,
        fewer_pass (λ (x : Geom Config). false)
            (λ (x : Geom Config). nat_le (rank t x.number) (rank t g.number))
            (λ x e. absurd (let no : ⊥ = cc in no)) t.geoms g
            stands refl (le-leb (rank t g.number) (rank t g.number) (omega arith)),
      ))

  -- a provider below, by a component
  same_under : (p : ℕ) (inside : U p) (c q : ℕ) (among : Contains (components (ways p inside).geom.config) c)
      → provider_of_consumer t c ≡ Some q → ((ways p inside).below c among).under ≡ q
  same_under p inside c q among e =
      let leads = (ways p inside).below c among in
      one-found (provider_of_consumer t c) leads.under q
      (ap (option_and_then (λ (z : Consumer). z.provider)) leads.found ∙ leads.attached) e

  -- from the height of its geom on a level more changes nothing of where an offset lies
  flat_settles : (k p : ℕ) (inside : U p) → height_of p inside ≤ k
      → (o : ℕ) → flat_within (suc k) t p o ≡ flat_within k t p o
  flat_settles zero p inside low o =
      let down = ways p inside in
      height-some down.geom (find-Contains (λ (z : Geom Config). z.number == down.provider.geom) t.geoms down.geom
      down.of) low
  flat_settles (suc k) p inside low o =
      let down = ways p inside in
      flat_level t (suc k) p o down.provider down.geom down.found down.of
      ∙ flat_step-same (flat_within k t) (flat_within (suc k) t) t t down.geom.config (λ c among. refl)
      (λ c q among e.
      let leads = down.below c among in
      subst (λ n. (i : ℕ) → flat_within (suc k) t n i ≡ flat_within k t n i) (same_under p inside c q among e)
      (flat_settles k leads.under leads.inside (omega (arith, low, height-below p inside c among))))
      down.provider down.provider o refl refl
      ∙ sym (flat_level t k p o down.provider down.geom down.found down.of)

  -- nor of which disks are reached
  ends_settles : (k p : ℕ) (inside : U p) → height_of p inside ≤ k → ends_within (suc k) t p ≡ ends_within k t p
  ends_settles zero p inside low =
      let down = ways p inside in
      height-some down.geom (find-Contains (λ (z : Geom Config). z.number == down.provider.geom) t.geoms down.geom
      down.of) low
  ends_settles (suc k) p inside low =
      let down = ways p inside in
      ends_level t (suc k) p down.provider down.geom down.found down.of
      ∙ ends_step-same (ends_within k t) (ends_within (suc k) t) t t down.geom.config (λ c among. refl)
      (λ c q among e.
      let leads = down.below c among in
      subst (λ n. ends_within (suc k) t n ≡ ends_within k t n) (same_under p inside c q among e)
      (ends_settles k leads.under leads.inside (omega (arith, low, height-below p inside c among))))
      ∙ sym (ends_level t k p down.provider down.geom down.found down.of)

  -- so more levels than there are geoms change nothing
  pub flat-enough : (p : ℕ) → U p → (more o : ℕ) → flat_within (more + length t.geoms) t p o ≡ flat t p o
  flat-enough p inside zero o =
      ap (λ k. flat_within k t p o) (let e : 0 + length t.geoms ≡ length t.geoms = omega arith in e)
  flat-enough p inside (suc more) o =
      ap (λ k. flat_within k t p o)
      (let e : suc more + length t.geoms ≡ suc (more + length t.geoms) = omega arith in e)
      ∙ flat_settles (more + length t.geoms) p inside (omega (arith, height-most (ways p inside).geom.number)) o
      ∙ flat-enough p inside more o

  -- and of the disks
  pub ends-enough : (p : ℕ) → U p → (more : ℕ) → ends_within (more + length t.geoms) t p ≡ ends t p
  ends-enough p inside zero =
      ap (λ k. ends_within k t p) (let e : 0 + length t.geoms ≡ length t.geoms = omega arith in e)
  ends-enough p inside (suc more) =
      ap (λ k. ends_within k t p)
      (let e : suc more + length t.geoms ≡ suc (more + length t.geoms) = omega arith in e)
      ∙ ends_settles (more + length t.geoms) p inside (omega (arith, height-most (ways p inside).geom.number))
      ∙ ends-enough p inside more

  -- the map of a provider of the set is made of those below
  pub flat-down : (p : ℕ) → U p → (x : Provider) (g : Geom Config) → provider_at t p ≡ Some x
      → geom_at t x.geom ≡ Some g → (o : ℕ) → flat t p o ≡ flat_step (flat t) t g.config x o
  flat-down p inside x g found of o =
      sym (flat-enough p inside 1 o)
      ∙ ap (λ k. flat_within k t p o) (let e : 1 + length t.geoms ≡ suc (length t.geoms) = omega arith in e)
      ∙ flat_level t (length t.geoms) p o x g found of

  -- so are its disks
  pub ends-down : (p : ℕ) → U p → (x : Provider) (g : Geom Config) → provider_at t p ≡ Some x
      → geom_at t x.geom ≡ Some g → ends t p ≡ ends_step (ends t) t g.config
  ends-down p inside x g found of =
      sym (ends-enough p inside 1)
      ∙ ap (λ k. ends_within k t p) (let e : 1 + length t.geoms ≡ suc (length t.geoms) = omega arith in e)
      ∙ ends_level t (length t.geoms) p x g found of

-- so of each open provider
pub map_goes_down : MapGoesDown
map_goes_down = record {
  flat = λ w p x g firm opened found of o.
      flat-down w.topology firm.graph.ranks.ranked (IsOpen w) (open-down w firm) p opened x g found of o;
  ends = λ w p x g firm opened found of.
      ends-down w.topology firm.graph.ranks.ranked (IsOpen w) (open-down w firm) p opened x g found of;
}
