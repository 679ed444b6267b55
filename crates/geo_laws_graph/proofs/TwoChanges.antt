-- Two changes of one thing in a row that are one.
use Rattle.std.specs.Prelude.{◌≡◌, ◌+◌, ◌==◌, Bool, true, false, not, List, [], ◌∷◌, ◌++◌, Some, None, filter, map}
use Rattle.std.specs.List.{AllByRecursion}
use Rattle.std.proofs.Common.{refl, ap, inr, arith}
use Rattle.std.proofs.lemmas.Bool.{eq-eqb}
use Rattle.std.proofs.lemmas.List.{map-append}
use Rattle.geo_model.specs.Words.{change_where}
use Rattle.geo_model.specs.Topology.{Consumer}
use Rattle.geo_laws_graph.specs.LookupLaws.{TwoChangesAreOne, new_consumer}
use Rattle.geo_laws_graph.proofs.Lists.{unhit, none_outside, rise-from}

module _ {X : Type 0} (hit : X → Bool) (change : X → X) where
  -- a change of the last item alone
  last-changed : (xs : List X) (y : X) → AllByRecursion (λ x. hit x ≡ false) xs → hit y ≡ true
      → change_where hit change (xs ++ y ∷ []) ≡ xs ++ change y ∷ []
  last-changed xs y others here = rw (map-append, here) (ap (λ zs. zs ++ change y ∷ []) (unhit hit change xs others))

  module _ (same : (x : X) → hit x ≡ true → hit (change x) ≡ true) where
    -- one item more of those that stay
    stay_step : (x : X) (xs : List X) (b : Bool) → hit x ≡ b
        → filter (λ z. not (hit z)) (change_where hit change xs) ≡ filter (λ z. not (hit z)) xs
        → filter (λ z. not (hit z)) (change_where hit change (x ∷ xs)) ≡ filter (λ z. not (hit z)) (x ∷ xs)
    stay_step x xs true e rest = rw (e, same x e) rest
    stay_step x xs false e rest = rw (e, e, rest) refl

    -- without the items that were changed it doesn't matter that they were
    changed-gone : (xs : List X) → filter (λ z. not (hit z)) (change_where hit change xs) ≡ filter (λ z. not (hit z)) xs
    changed-gone [] = refl
    changed-gone (x ∷ xs) = stay_step x xs (hit x) refl (changed-gone xs)

module _ {C : Type 0} where
  -- two changes of a consumer that are one
  pub two-changes : TwoChangesAreOne C
  two-changes = record {
    made = λ t geom p order.
        let before : AllByRecursion (λ (x : Consumer). (x.number == t.next_consumer) ≡ false) t.consumers =
        none_outside (λ (x : Consumer). x.number) 0 t.next_consumer t.next_consumer t.consumers
        (rise-from t.next_consumer (map (λ (x : Consumer). x.number) t.consumers) order.consumers)
        (inr (omega arith)) in
        ap (λ xs. record t { consumers = xs; next_consumer = t.next_consumer + 1 })
        (last-changed (λ (x : Consumer). x.number == t.next_consumer) (λ x. record x { provider = Some p })
        t.consumers (new_consumer t geom None) before (eq-eqb t.next_consumer t.next_consumer refl));
    removed = λ t c.
        ap (λ xs. record t { consumers = xs })
        (changed-gone (λ (x : Consumer). x.number == c) (λ x. record x { provider = None }) (λ x e. e) t.consumers);
  }
