-- The depth of a graph whose geoms are of their classes.
use Rattle.std.specs.Prelude.{◌≡◌, ◌≢◌, ◌↔◌, ◌≤◌, nat_lt, Bool, true, false, not, ◌&&◌, ◌||◌, List, [], ◌∷◌, All}
use Rattle.std.specs.List.{AllByRecursion, list_any}
use Rattle.std.proofs.Common.{refl, sym, ◌∙◌}
use Rattle.std.proofs.lemmas.Bool.{eqb-false, or_parts, or_from, ltb-false, le-ltb}
use Rattle.std.proofs.lemmas.List.Elements.{recursion_from_All, All-from_recursion}
use Rattle.geo_model.specs.Kind.TheVariants as kinds
use Rattle.geo_model.specs.TheConstants.{MAX_RANK}
use Rattle.geo_model.specs.Words.{is_kind, is_granted_kind}
use Rattle.geo_model.specs.Topology.{Topology, Geom}
use Rattle.geo_model.specs.Rank.{rank, is_too_deep}
use Rattle.geo_model.specs.World.{Config}
use Rattle.geo_model.specs.Sound.{IsOfItsClass}
use Rattle.geo_laws_graph.proofs.Classes.{granted_is, not_granted}

module _ (t : Topology Config) where
  -- a geom deeper than the limit, of a class other than DEV and TASTE
  abbrev is_deep : Geom Config → Bool
  is_deep x = not (is_granted_kind x.kind) && nat_lt MAX_RANK (rank t x.number)

  -- a geom within the limit, if it is neither geom 1 nor 2
  abbrev IsShallow : Geom Config → Type 0
  IsShallow x = x.number ≢ 1 → x.number ≢ 2 → rank t x.number ≤ MAX_RANK

  -- so one that isn't too deep is within the limit
  shallow_from : (x : Geom Config) → IsOfItsClass x → is_deep x ≡ false → IsShallow x
  shallow_from x of e apart other = ltb-false MAX_RANK (rank t x.number) (rw (not_granted x of apart other) at e)

  -- and one within the limit isn't too deep
  apart_from : (x : Geom Config) (b : Bool) → is_granted_kind x.kind ≡ b → IsOfItsClass x → IsShallow x
      → is_deep x ≡ false
  apart_from x true e of low = rw e refl
  apart_from x false e of low =
      let both : (is_kind x.kind kinds.Dev || is_kind x.kind kinds.Taste) ≡ false = sym (granted_is x.kind) ∙ e in
      let parts = or_parts (is_kind x.kind kinds.Dev) (is_kind x.kind kinds.Taste) both in
      let less : rank t x.number ≤ MAX_RANK =
      low (eqb-false x.number 1 (sym of.dev ∙ parts.0)) (eqb-false x.number 2 (sym of.taste ∙ parts.1)) in
      rw (e, le-ltb MAX_RANK (rank t x.number) less) refl

  -- where none is too deep all are within the limit
  shallow_all : (xs : List (Geom Config)) → AllByRecursion IsOfItsClass xs → list_any is_deep xs ≡ false
      → AllByRecursion IsShallow xs
  shallow_all [] of e = tt
  shallow_all (x ∷ xs) of e =
      let parts = or_parts (is_deep x) (list_any is_deep xs) e in
      (shallow_from x of.0 parts.0, shallow_all xs of.1 parts.1)

  -- where all are within the limit none is too deep
  deep_none : (xs : List (Geom Config)) → AllByRecursion IsOfItsClass xs → AllByRecursion IsShallow xs
      → list_any is_deep xs ≡ false
  deep_none [] of low = refl
  deep_none (x ∷ xs) of low =
      or_from (is_deep x) (list_any is_deep xs) (apart_from x (is_granted_kind x.kind) refl of.0 low.0)
      (deep_none xs of.1 low.1)

  -- only geoms 1 and 2 may be deeper than the limit
  pub depth : All IsOfItsClass t.geoms → (is_too_deep t ≡ false) ↔ All IsShallow t.geoms
  depth classes =
      let of = recursion_from_All IsOfItsClass t.geoms classes in (
        (λ e. All-from_recursion IsShallow t.geoms (shallow_all t.geoms of e)),
        (λ low. deep_none t.geoms of (recursion_from_All IsShallow t.geoms low)),
      )
