-- Providers without an error, before and after one of them gets one.
use Rattle.std.specs.Prelude.{◌≡◌, ℕ, ◌+◌, ◌==◌, Bool, true, false, not, ◌&&◌, ◌||◌, List, [], ◌∷◌, map, filter, find, length, Some, IsSomeAnd}
use Rattle.std.specs.List.{list_any}
use Rattle.std.specs.Option.{option_map_or}
use Rattle.std.proofs.Common.{refl, sym, ap, ◌∙◌, rules}
use Rattle.geo_model.specs.Words.{change_where}
use Rattle.geo_model.specs.Topology.{Topology, Provider, Geom, provider_at, geom_at, geom_of_provider, is_errored, set_error}
use Rattle.geo_model.specs.Graph.{IsInOrder, AreNumbers}
use Rattle.geo_laws_graph.proofs.Lists.{Rise, rise-from, none_outside, unhit}
use Rattle.geo_life.specs.Life.{sound_providers}
use Rattle.geo_base.proofs.FindLists.{found_in, any-contained}
use Rattle.std.proofs.lemmas.List.Folds.{list_any_none}
use Rattle.geo_laws_counts.proofs.LimitFacts.{all_of}
use Rattle.geo_laws_graph.proofs.Members.{at_contained}
use Rattle.geo_laws_graph.proofs.Numbered.{unique}

-- whether it carries no error, and with one
abbrev sound : Provider → Bool
sound x = not x.errored

abbrev broken : Provider → Provider
broken x = record x { errored = true }

-- one provider more of the list
one_less : (p low high : ℕ) (x : Provider) (xs : List Provider) (y : Provider) (b : Bool) → (x.number == p) ≡ b
    → Rise low (map (λ (z : Provider). z.number) (x ∷ xs)) high
    → find (λ (z : Provider). z.number == p) (x ∷ xs) ≡ Some y → y.errored ≡ false
    → (find (λ (z : Provider). z.number == p) xs ≡ Some y
    → length (filter sound (change_where (λ (z : Provider). z.number == p) broken xs)) + 1 ≡ length (filter sound xs))
    → length (filter sound (change_where (λ (z : Provider). z.number == p) broken (x ∷ xs))) + 1
    ≡ length (filter sound (x ∷ xs))
one_less p low high x xs y true e rise found is so =
    search (
      rules,
      unhit (λ (z : Provider). z.number == p) broken xs,
      none_outside (λ (z : Provider). z.number) (x.number + 1) high p xs rise.2,
    )
one_less p low high x xs y false e rise found is so = search rules

-- there is one less
errors_less : (p low high : ℕ) (xs : List Provider) (y : Provider)
    → Rise low (map (λ (z : Provider). z.number) xs) high
    → find (λ (z : Provider). z.number == p) xs ≡ Some y → y.errored ≡ false
    → length (filter sound (change_where (λ (z : Provider). z.number == p) broken xs)) + 1 ≡ length (filter sound xs)
errors_less p low high [] y rise never is = absurd (cc)
errors_less p low high (x ∷ xs) y rise found is =
    one_less p low high x xs y (x.number == p) refl rise found is
    (λ later. errors_less p (x.number + 1) high xs y rise.2 later is)

-- a provider without an error that gets one is one less of them
pub error_owes : {C : Type 0} (t : Topology C) → IsInOrder t → (p : ℕ) (x : Provider) → provider_at t p ≡ Some x
    → x.errored ≡ false
    → sound_providers (set_error t p) + 1 ≡ sound_providers t
error_owes t order p x found is =
    errors_less p 0 t.next_provider t.providers x
    (rise-from t.next_provider (map (λ (z : Provider). z.number) t.providers) order.providers) found is

-- Whether a provider is offered

-- the item that is found at a number tells whether one of that number passes
pub any_found : {X : Type 0} (number : X → ℕ) (test : X → Bool) (p next : ℕ) (xs : List X) (y : X)
    → AreNumbers (map number xs) next → find (λ (z : X). number z == p) xs ≡ Some y
    → list_any (λ (z : X). (number z == p) && test z) xs ≡ test y
any_found {X} number test p next xs y order found = by (test y) refl
  where
    by : (b : Bool) → test y ≡ b → list_any (λ (z : X). (number z == p) && test z) xs ≡ b
    by true passes =
        let at = found_in (λ (z : X). number z == p) xs y found in
        any-contained (λ (z : X). (number z == p) && test z) xs y at.0 (rw (at.1, passes) refl)
    by false fails =
        list_any_none (λ (z : X). (number z == p) && test z) xs
        (all_of (λ (z : X). ((number z == p) && test z) ≡ false) xs
        (λ z there. other z (number z == p)
        (at_contained (λ (w : X). (number w == p) ≡ true → w ≡ y) xs z (unique number next p xs y order found) there)))
      where
        other : (z : X) (c : Bool) → (c ≡ true → z ≡ y) → (c && test z) ≡ false
        other z true same = ap test (same refl) ∙ fails
        other z false same = refl

module _ {C : Type 0} (t : Topology C) (order : IsInOrder t) (p : ℕ) (x : Provider)
    (found : provider_at t p ≡ Some x) where
  -- a provider is errored just where it carries an error
  pub errored_is : is_errored t p ≡ x.errored
  errored_is =
      any_found (λ (z : Provider). z.number) (λ z. z.errored) p t.next_provider t.providers x order.providers found

  -- it isn't offered where it carries an error or its geom withers
  pub not_offered_is : (g : Geom C) → geom_at t x.geom ≡ Some g
      → (is_errored t p || option_map_or (λ h. h.withering) (geom_of_provider t p) true) ≡ (x.errored || g.withering)
  not_offered_is g of = search (rules, errored_is)

-- the same of one that is there without an error
pub error_owes_some : {C : Type 0} (t : Topology C) → IsInOrder t → (p : ℕ)
    → IsSomeAnd (provider_at t p) (λ x. x.errored ≡ false)
    → sound_providers (set_error t p) + 1 ≡ sound_providers t
error_owes_some t order p some = search (rules, error_owes t order p)

-- a provider without an error is offered unless its geom withers
pub offered_sound : (a b c : Bool) → a ≡ false → c ≡ (a || b) → not b ≡ not c
offered_sound true b c never is = absurd (cc)
offered_sound false b c e is = ap not (sym is)

-- one with an error isn't
pub offered_errored : (a b c : Bool) → a ≡ true → c ≡ (a || b) → not a ≡ not c
offered_errored true b c e is = ap not (sym is)
offered_errored false b c never is = absurd (cc)
