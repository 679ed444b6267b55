-- New providers of a geom that stands, each of which is offered for taste: what is offered lives.
use Rattle.std.specs.Prelude.{◌≡◌, ◌≢◌, ◌⊎◌, ℕ, ◌<◌, ◌==◌, Bool, true, false, ◌&&◌, ◌||◌, List, [], ◌∷◌, map, fold, Option, Some, None, IsSomeAnd, count_by, option_and_then, if◌then◌else◌}
use Rattle.std.specs.List.{AllByRecursion, list_any}
use Rattle.std.specs.Option.{option_map_or}
use Rattle.std.proofs.Common.{inl, inr, refl, sym, ◌∙◌, subst, arith}
use Rattle.std.proofs.lemmas.Bool.{ne_eqb, cases_eq, or_parts}
use Rattle.geo_base.specs.declared.kind.Kind.{Kind}
use Rattle.geo_base.specs.declared.request.Counts.{Counts}
use Rattle.geo_model.specs.declared.step.Event.TheVariants as events
use Rattle.geo_model.specs.Topology.{Topology, Geom, Provider, geom_at, geom_of_provider, attached_to, is_errored, add_geom, add_provider, add_consumer}
use Rattle.geo_model.specs.World.{Config}
use Rattle.geo_model.specs.Events.{QueuedTopology, post, offer, offer_again, resize, outgrow_consumer}
use Rattle.geo_model.specs.Acceptance.{NewSlice}
use Rattle.geo_model.specs.Graph.{IsInOrder}
use Rattle.geo_model.specs.Steady.{is_offer_of}
use Rattle.geo_laws_graph.proofs.Lists.{rise-from, none_outside}
use Rattle.geo_laws_graph.proofs.Found.{added-geom, added-provider, added-consumer}
use Rattle.geo_laws_offers.specs.OfferingLaws.{IsLiving, StaysThere, OnlyAdds}
use Rattle.geo_laws_offers.proofs.Quiet.{not-counted, stays-same, stays-trans, provider-stays, consumer-stays, quiet-same, quiet-adds, adds-after, quiet-fold, outgrow-quiet}

-- the geom stands and doesn't wither
abbrev pub IsUpright : Topology Config → ℕ → Type 0
IsUpright t g = IsSomeAnd (geom_at t g) (λ x. x.withering ≡ false)

-- a new geom is upright
pub new-upright : (t : Topology Config) (kind : Kind) (name : List ℕ) (config : Config) (automatic : Bool)
    → IsInOrder t → IsUpright (add_geom t kind name config automatic) t.next_geom
new-upright t kind name config automatic order =
    subst (λ o. IsSomeAnd o (λ x. x.withering ≡ false)) (sym (added-geom.new t kind name config automatic order)) refl

-- the graph keeps its parts and its order, and the geom stands
pub record KeepsUpright (t u : Topology Config) (g : ℕ) : Type 0 where
  pub stays : StaysThere t u
  pub order : IsInOrder u
  pub upright : IsUpright u g

-- new consumers, one after another
pub consumers-come : (g n : ℕ) (ps : List Provider) (t : Topology Config) → IsInOrder t → IsUpright t g
    → KeepsUpright t (fold (λ u (p : Provider). add_consumer u n (Some p.number)) t ps) g
consumers-come g n [] t order upright = record { stays = stays-same t; order = order; upright = upright }
consumers-come g n (p ∷ ps) t order upright =
    let u : Topology Config = add_consumer t n (Some p.number) in
    let rest = consumers-come g n ps (add_consumer t n (Some p.number))
    (added-consumer.order t n (Some p.number) order) upright in
    record {
      stays = stays-trans t u (fold (λ v (x : Provider). add_consumer v n (Some x.number)) u ps)
          (consumer-stays t n (Some p.number)) rest.stays;
      order = rest.order;
      upright = rest.upright;
    }

-- none of a number that none has carries an error
none-errored : (n : ℕ) (ps : List Provider) → AllByRecursion (λ x. (x.number == n) ≡ false) ps
    → list_any (λ x. (x.number == n) && x.errored) ps ≡ false
none-errored n [] others = refl
none-errored n (x ∷ ps) others = rw (others.0, none-errored n ps others.1) refl

-- so the next provider doesn't
next-errored : (t : Topology Config) → IsInOrder t → is_errored t t.next_provider ≡ false
next-errored t order =
    none-errored t.next_provider t.providers
    (none_outside (λ (x : Provider). x.number) 0 t.next_provider t.next_provider t.providers
    (rise-from t.next_provider (map (λ (x : Provider). x.number) t.providers) order.providers)
    (inr (omega arith)))

module _ (t : Topology Config) (g : ℕ) (name : List ℕ) (size sector : ℕ) where
  -- with a new provider of the geom
  abbrev u : Topology Config
  u = add_provider t g name size sector

  -- it lives where its geom is upright
  new-lives : IsInOrder t → IsUpright t g → IsLiving u t.next_provider
  new-lives order upright = (
    added-provider.errors t g name size sector t.next_provider ∙ next-errored t order,
    subst (λ o. IsSomeAnd (option_and_then (λ (x : Provider). geom_at u x.geom) o) (λ y. y.withering ≡ false))
        (sym (added-provider.new t g name size sector order)) upright,
  )

  -- another one that lived lives
  others-live : (p : ℕ) → p ≢ t.next_provider → IsLiving t p → IsLiving u p
  others-live p apart lives = (
    added-provider.errors t g name size sector p ∙ lives.0,
    subst (λ o. IsSomeAnd (option_and_then (λ (x : Provider). geom_at u x.geom) o) (λ y. y.withering ≡ false))
        (sym (added-provider.others t g name size sector p apart)) lives.1,
  )

module _ (start : QueuedTopology Config) (g sector : ℕ) where
  -- one provider more, which is offered
  offer-adds : (q : QueuedTopology Config) (name : List ℕ) (size : ℕ) → IsInOrder q.topology
      → IsUpright q.topology g → OnlyAdds start q → OnlyAdds start (offer q g name size sector)
  offer-adds q name size order upright adds = record {
    stays = stays-trans start.topology q.topology (add_provider q.topology g name size sector) adds.stays
        (provider-stays q.topology g name size sector);
    offers = λ p more. by p more (cases_eq p q.topology.next_provider);
  }
    where
      -- whether it is the new one
      by : (p : ℕ) → count_by (is_offer_of p) start.events
          < count_by (is_offer_of p) (offer q g name size sector).events
          → (p ≡ q.topology.next_provider) ⊎ (p ≢ q.topology.next_provider)
          → IsLiving (add_provider q.topology g name size sector) p
      by p more (inl same) =
          subst (IsLiving (add_provider q.topology g name size sector)) (sym same)
          (new-lives q.topology g name size sector order upright)
      by p more (inr apart) =
          let count = not-counted p q.events (events.NewProvider q.topology.next_provider)
          (ne_eqb q.topology.next_provider p (λ is. apart (sym is))) in
          others-live q.topology g name size sector p apart (adds.offers p (omega (arith, more, count)))

  -- so some providers more
  pub offers-add : (xs : List NewSlice) (q : QueuedTopology Config) → IsInOrder q.topology
      → IsUpright q.topology g → OnlyAdds start q
      → OnlyAdds start (fold (λ v (x : NewSlice). offer v g x.name x.size sector) q xs)
  offers-add [] q order upright adds = adds
  offers-add (x ∷ xs) q order upright adds =
      offers-add xs (offer q g x.name x.size sector)
      (added-provider.order q.topology g x.name x.size sector order) upright
      (offer-adds q x.name x.size order upright adds)

-- a provider more of a geom that stands
pub offered-adds : (q : QueuedTopology Config) (g : ℕ) (name : List ℕ) (size sector : ℕ) → IsInOrder q.topology
    → IsUpright q.topology g → OnlyAdds q (offer q g name size sector)
offered-adds q g name size sector order upright =
    offer-adds q g sector q name size order upright (quiet-adds q q (quiet-same q))

-- a geom that is found and doesn't wither
pub stands-by : (o : Option (Geom Config)) → option_map_or (λ g. g.withering) o true ≡ false
    → IsSomeAnd o (λ g. g.withering ≡ false)
stands-by None e = absurd (let bad : ⊥ = cc in bad)
stands-by (Some g) e = e

-- a provider is offered again, by whether it may be
again-by : (q : QueuedTopology Config) (n : ℕ) (b : Bool)
    → (is_errored q.topology n || option_map_or (λ g. g.withering) (geom_of_provider q.topology n) true) ≡ b
    → OnlyAdds q (if b then q else post q (events.NewProvider n))
again-by q n true e = quiet-adds q q (quiet-same q)
again-by q n false e = record {
  stays = stays-same q.topology;
  offers = λ p more. by p more (cases_eq n p);
}
  where
    -- whether it is one of the provider
    by : (p : ℕ) → count_by (is_offer_of p) q.events < count_by (is_offer_of p) (post q (events.NewProvider n)).events
        → (n ≡ p) ⊎ (n ≢ p) → IsLiving q.topology p
    by p more (inl same) =
        let parts = or_parts (is_errored q.topology n)
        (option_map_or (λ g. g.withering) (geom_of_provider q.topology n) true) e in
        subst (IsLiving q.topology) same (parts.0, stands-by (geom_of_provider q.topology n) parts.1)
    by p more (inr apart) =
        let count = not-counted p q.events (events.NewProvider n) (ne_eqb n p apart) in
        absurd (omega (arith, more, count))

-- a provider is offered again
pub again-adds : (q : QueuedTopology Config) (p : ℕ) → OnlyAdds q (offer_again q p)
again-adds q p =
    again-by q p (is_errored q.topology p || option_map_or (λ g. g.withering) (geom_of_provider q.topology p) true)
    refl

-- a growth is heard of
pub resize-adds : (granted : ℕ → Counts) (q : QueuedTopology Config) (p : ℕ) → OnlyAdds q (resize granted q p)
resize-adds granted q p =
    let r : QueuedTopology Config = fold (outgrow_consumer granted) q (attached_to q.topology p) in
    adds-after q r (offer_again r p)
    (quiet-fold (outgrow_consumer granted) (outgrow-quiet granted) (attached_to q.topology p) q)
    (again-adds r p)
