-- A concat that may grow: its class, its configuration, its one provider; and that places are no more than
-- consumers.
use Rattle.std.specs.Prelude.{◌≡◌, ◌≢◌, ℕ, suc, ◌<◌, ◌≤◌, ◌==◌, true, false, not, ◌&&◌, List, [], ◌∷◌, ◌++◌, length, filter, find, flat_map, Option, Some, None, is_none, Contains}
use Rattle.std.specs.List.{list_any}
use Rattle.std.specs.Option.{option_to_list}
use Rattle.std.proofs.Common.{refl, sym, ◌∙◌, ap, subst, arith}
use Rattle.std.proofs.lemmas.Bool.{and_parts, not-true, ne_eqb, eq-eqb}
use Rattle.std.proofs.lemmas.List.Filters.{length-filter_both}
use Rattle.geo_base.specs.declared.kind.Kind.{Kind}
use Rattle.geo_base.specs.declared.kind.Kind.TheVariants as kinds
use Rattle.geo_model.specs.Words.{is_kind, same_name}
use Rattle.geo_model.specs.Topology.{Topology, Geom, Provider, providers_of}
use Rattle.geo_model.specs.World.{Config, Concat}
use Rattle.geo_model.specs.Acceptance.{add_place}
use Rattle.geo_model.specs.Append.{Growing, with_provider, is_growing, growing_concat}
use Rattle.geo_model.specs.Graph.{IsInOrder}
use Rattle.geo_model.specs.Sound.{fits_kind}
use Rattle.geo_model.proofs.DemandLemmas.{find_passes}
use Rattle.geo_laws_graph.proofs.Members.{Contains-here, Contains-there, Contains-filter, at_contained}
use Rattle.geo_laws_life.proofs.Standers.{PairsByRecursion}
use Rattle.geo_laws_growth.specs.GrowthLaws.{IsFoundGrowing}
use Rattle.geo_laws_growth.proofs.Grown.{grown_is_found}
use Rattle.geo_laws_making.proofs.Over.{false_true}
use Rattle.geo_laws_making.proofs.Made.{through}

-- the class with CONCAT's number is CONCAT
concat_class : (kind : Kind) → is_kind kind kinds.Concat ≡ true → kind ≡ kinds.Concat
concat_class kinds.Concat e = refl
concat_class _ e = false_true e

-- a configuration of a concat
pub record IsConcat (config : Config) : Type 0 where
  pub id : Option ℕ
  pub places : List (Option ℕ)
  pub sizes : List ℕ
  pub is : config ≡ Concat id places sizes

-- the configuration of the class is one
pub concat_of : (config : Config) → fits_kind kinds.Concat config ≡ true → IsConcat config
concat_of (Concat id places sizes) e = record { id = id; places = places; sizes = sizes; is = refl }
concat_of _ e = false_true e

-- a concat that was found and its provider, of its class and not withering
pub record IsStanding (t : Topology Config) (x : Growing) : Type 0 where
  pub found : IsFoundGrowing t x
  pub kind : x.geom.kind ≡ kinds.Concat
  pub upright : x.geom.withering ≡ false

-- the geom is the one to which the provider was looked for
its_geom : (g : Geom Config) (ps : List Provider) (x : Growing) → with_provider g ps ≡ Some x → g ≡ x.geom
its_geom g [] x e = absurd (let no : ⊥ = cc in no)
its_geom g (p ∷ ps) x e = let same : record { geom = g; provider = p } ≡ x = cc in ap (λ (z : Growing). z.geom) same

-- what an append finds stands so
pub growing_stands : (t : Topology Config) (name : List ℕ) (x : Growing) → IsInOrder t
    → growing_concat t name ≡ Some x → IsStanding t x
growing_stands t name x order e =
    let g = through (λ (g : Geom Config). with_provider g (providers_of t g.number))
    (find (is_growing t name) t.geoms) x e in
    let same : g.first ≡ x.geom = its_geom g.first (providers_of t g.first.number) x g.then in
    let passes = find_passes (is_growing t name) t.geoms g.first g.is in
    let rest = and_parts (is_kind g.first.kind kinds.Concat) (not g.first.withering
    && (same_name g.first.name name && not (length (providers_of t g.first.number) == 0))) passes in
    let upright = and_parts (not g.first.withering)
    (same_name g.first.name name && not (length (providers_of t g.first.number) == 0)) rest.1 in
    record {
      found = grown_is_found.named t name x order e;
      kind = sym (ap (λ (z : Geom Config). z.kind) same) ∙ concat_class g.first.kind rest.0;
      upright = sym (ap (λ (z : Geom Config). z.withering) same) ∙ not-true g.first.withering upright.0;
    }

-- one more place keeps the class
pub still_fits : (kind : Kind) (config : Config) (c size : ℕ) → kind ≡ kinds.Concat → fits_kind kind config ≡ true
    → fits_kind kind (add_place config c size) ≡ true
still_fits kind config c size concat fits =
    let a = concat_of config (subst (λ k. fits_kind k config ≡ true) concat fits) in
    subst (λ k. fits_kind k (add_place config c size) ≡ true) (sym concat)
    (subst (λ z. fits_kind kinds.Concat (add_place z c size) ≡ true) (sym a.is) refl)

-- without a member a list is shorter
pub without_shorter : (x : ℕ) (ys : List ℕ) → Contains ys x → length (filter (λ z. not (z == x)) ys) < length ys
without_shorter x ys here =
    let gone = Contains-filter (λ z. not (not (z == x))) ys x here (rw (eq-eqb x x refl) refl) in
    omega (arith, gone.1, length-filter_both (λ z. not (z == x)) (λ z. not (not (z == x))) (λ z. refl) ys)

-- different numbers that are all among others are no more than these
pub no_more : (xs ys : List ℕ) → PairsByRecursion (λ a b. a ≢ b) xs → ((n : ℕ) → Contains xs n → Contains ys n)
    → length xs ≤ length ys
no_more [] ys apart among = omega arith
no_more (x ∷ xs) ys apart among =
    let rest : length xs ≤ length (filter (λ z. not (z == x)) ys) =
    no_more xs (filter (λ z. not (z == x)) ys) apart.1 (λ n here.
    Contains-filter (λ z. not (z == x)) ys n (among n (Contains-there x n xs here))
    (ap not (ne_eqb n x (λ same. at_contained (λ b. x ≢ b) xs n apart.0 here (sym same))))) in
    let less : length (filter (λ z. not (z == x)) ys) < length ys =
    without_shorter x ys (among x (Contains-here x xs)) in
    omega arith

-- where no place is free, there are as many components
pub all-components : (places : List (Option ℕ)) → list_any is_none places ≡ false
    → length (flat_map option_to_list places) ≡ length places
all-components [] none = refl
all-components (None ∷ places) none = false_true (sym none)
all-components (Some c ∷ places) none = ap suc (all-components places none)

-- a place more is filled too
pub filled_still : (places : List (Option ℕ)) (c : ℕ) → list_any is_none places ≡ false
    → list_any is_none (places ++ Some c ∷ []) ≡ false
filled_still [] c none = refl
filled_still (None ∷ places) c none = false_true (sym none)
filled_still (Some d ∷ places) c none = filled_still places c none
