-- What attaching, detaching, adding and removing do to the edges of a graph.
use Rattle.std.specs.Prelude.{◌≡◌, ◌⊎◌, ℕ, ◌==◌, Bool, true, false, not, find, Option, Some, None, Contains, option_and_then}
use Rattle.std.proofs.Common.{inl, inr, refl, sym, ◌∙◌, ap, subst}
use Rattle.std.proofs.lemmas.Bool.{eqb-true, cases_Bool, not-true}
use Rattle.std.proofs.lemmas.List.Elements.{Contains-append_left, Contains-push, Contains-push_cases}
use Rattle.geo_model.specs.Topology.{Topology, Provider, Consumer, provider_at, consumer_at, attach, add_consumer, remove_consumer, detach}
use Rattle.geo_model.proofs.DemandLemmas.{find_passes}
use Rattle.geo_laws_graph.specs.Edges.{Below, AddsEdge}
use Rattle.geo_laws_graph.specs.Attach.{CanAttach, IsAttached}
use Rattle.geo_laws_graph.proofs.Members.{find-Contains, Contains-map, map-Contains, Contains-filter, filter-Contains}
use Rattle.geo_laws_graph.proofs.Lists.{changed, found_itself}
use Rattle.geo_model.specs.Graph.{IsInOrder}

-- a consumer of a number is the one that is found there
abbrev number_of : Consumer → ℕ
number_of x = x.number

module _ {C : Type 0} (t : Topology C) (order : IsInOrder t) (c : ℕ) (consumer : Consumer)
    (stands : consumer_at t c ≡ Some consumer) where
  -- in lists in order only the consumer that is found at a number has it
  only_consumer : (x : Consumer) → Contains t.consumers x → x.number ≡ c → x ≡ consumer
  only_consumer x here same =
      let found : find (λ (z : Consumer). z.number == x.number) t.consumers ≡ Some x =
      found_itself number_of t.next_consumer t.consumers x order.consumers here in
      let found_too : consumer_at t c ≡ Some x =
      subst (λ (n : ℕ). find (λ (z : Consumer). z.number == n) t.consumers ≡ Some x) same found in
      cc

module _ {C : Type 0} (t : Topology C) (c p : ℕ) where
  -- the consumer of the number is attached
  changed_hit : (x : Consumer) → (x.number == c) ≡ true
      → changed (λ (y : Consumer). y.number == c) (λ y. record y { provider = Some p }) x
      ≡ record x { provider = Some p }
  changed_hit x e = rw e refl

  -- any other is as before
  changed_miss : (x : Consumer) → (x.number == c) ≡ false
      → changed (λ (y : Consumer). y.number == c) (λ y. record y { provider = Some p }) x ≡ x
  changed_miss x e = rw e refl

  -- the edge of a consumer that isn't this one, in the graph with this one attached
  kept_edge : (g h : ℕ) (b : Below t g h) → (b.consumer.number == c) ≡ false → Below (attach t c p) g h
  kept_edge g h b other = record {
    consumer = b.consumer;
    stands = subst (Contains (attach t c p).consumers) (changed_miss b.consumer other)
        (Contains-map (changed (λ (y : Consumer). y.number == c) (λ y. record y { provider = Some p })) t.consumers
        b.consumer b.stands);
    above = b.above;
    provider = b.provider;
    attached = b.attached;
    below = b.below;
  }

  module _ (order : IsInOrder t) (can : CanAttach t c p) where
    -- a consumer that is attached to nothing makes no edge
    not_attached : (g h : ℕ) (b : Below t g h) → (b.consumer.number == c) ≡ true → ⊥
    not_attached g h b e =
        let same : b.consumer ≡ can.consumer =
        only_consumer t order c can.consumer can.stands b.consumer b.stands (eqb-true b.consumer.number c e) in
        let free : b.consumer.provider ≡ None = ap (λ (x : Consumer). x.provider) same ∙ can.free in
        let none : option_and_then (provider_at t) None ≡ Some b.provider = rw free at b.attached in
        cc

    -- so with this one attached all edges stay
    old_edges : (g h : ℕ) → Below t g h → Below (attach t c p) g h
    old_edges g h b =
        elim (cases_Bool (b.consumer.number == c)) [
          | inl e ↦ absurd (not_attached g h b e)
          | inr other ↦ kept_edge g h b other
        ]

    -- and there is an edge from its geom down to the provider's
    new_edge : Below (attach t c p) can.consumer.geom can.provider.geom
    new_edge =
        let number : (can.consumer.number == c) ≡ true =
        find_passes (λ (x : Consumer). x.number == c) t.consumers can.consumer can.stands in
        let here : Contains t.consumers can.consumer =
        find-Contains (λ (x : Consumer). x.number == c) t.consumers can.consumer can.stands in
        record {
          consumer = record can.consumer { provider = Some p };
          stands = subst (Contains (attach t c p).consumers) (changed_hit can.consumer number)
              (Contains-map (changed (λ (y : Consumer). y.number == c) (λ y. record y { provider = Some p }))
              t.consumers can.consumer here);
          above = refl;
          provider = can.provider;
          attached = can.offers;
          below = refl;
        }

    -- an edge that is there then was there before, or is that one
    only_edge : (g h : ℕ) (b : Below (attach t c p) g h) (x : Consumer) → Contains t.consumers x
        → changed (λ (y : Consumer). y.number == c) (λ y. record y { provider = Some p }) x ≡ b.consumer
        → (d : Bool) → (x.number == c) ≡ d
        → Below t g h ⊎ (g ≡ can.consumer.geom) × (h ≡ can.provider.geom)
    only_edge g h b x here is true e =
        let same : x ≡ can.consumer = only_consumer t order c can.consumer can.stands x here (eqb-true x.number c e) in
        let whole : record x { provider = Some p } ≡ b.consumer = sym (changed_hit x e) ∙ is in
        let above : b.consumer.geom ≡ can.consumer.geom = sym (ap (λ (y : Consumer). y.geom) whole)
        ∙ ap (λ (y : Consumer). y.geom) same in
        let to : b.consumer.provider ≡ Some p = sym (ap (λ (y : Consumer). y.provider) whole) in
        let offers : provider_at t p ≡ Some b.provider = rw to at b.attached in
        let offers_too : provider_at t p ≡ Some can.provider = can.offers in
        let one : b.provider ≡ can.provider = cc in
        inr (sym b.above ∙ above, sym b.below ∙ ap (λ (y : Provider). y.geom) one)
    only_edge g h b x here is false e =
        let whole : x ≡ b.consumer = sym (changed_miss x e) ∙ is in
        inl (record {
          consumer = b.consumer;
          stands = subst (Contains t.consumers) whole here;
          above = b.above;
          provider = b.provider;
          attached = b.attached;
          below = b.below;
        })

    -- an attach adds one edge
    pub attach-edge : AddsEdge t (attach t c p) can.consumer.geom can.provider.geom
    attach-edge = record {
      geoms = refl;
      old = old_edges;
      new = new_edge;
      only = λ g h b.
          let o = map-Contains (changed (λ (y : Consumer). y.number == c) (λ y. record y { provider = Some p }))
          t.consumers b.consumer b.stands in
          only_edge g h b o.item o.stands o.fact (o.item.number == c) refl;
    }

module _ {C : Type 0} (t : Topology C) (c : ℕ) where
  -- a consumer that stays when another one goes
  stays : (x : Consumer) → Contains t.consumers x → (x.number == c) ≡ false → Contains (remove_consumer t c).consumers x
  stays x here other = Contains-filter (λ (y : Consumer). not (y.number == c)) t.consumers x here (rw other refl)

  -- a removal leaves no edge that wasn't there
  pub removed-edges : (g h : ℕ) → Below (remove_consumer t c) g h → Below t g h
  removed-edges g h b = record {
    consumer = b.consumer;
    stands = (filter-Contains (λ (y : Consumer). not (y.number == c)) t.consumers b.consumer b.stands).0;
    above = b.above;
    provider = b.provider;
    attached = b.attached;
    below = b.below;
  }

  -- the edge of a consumer that isn't this one stays
  staying_edge : (g h : ℕ) (b : Below t g h) → (b.consumer.number == c) ≡ false → Below (remove_consumer t c) g h
  staying_edge g h b other = record {
    consumer = b.consumer;
    stands = stays b.consumer b.stands other;
    above = b.above;
    provider = b.provider;
    attached = b.attached;
    below = b.below;
  }

  module _ (order : IsInOrder t) where
    -- the edge of the consumer that goes leads from its geom down to its provider's
    lost_edge : (at : IsAttached t c) (g h : ℕ) (b : Below t g h) → (b.consumer.number == c) ≡ true
        → (g ≡ at.consumer.geom) × (h ≡ at.provider.geom)
    lost_edge at g h b e =
        let same : b.consumer ≡ at.consumer =
        only_consumer t order c at.consumer at.stands b.consumer b.stands (eqb-true b.consumer.number c e) in
        let above : b.consumer.geom ≡ at.consumer.geom = ap (λ (y : Consumer). y.geom) same in
        let to : b.consumer.provider ≡ Some at.number = ap (λ (y : Consumer). y.provider) same ∙ at.at in
        let offers : provider_at t at.number ≡ Some b.provider = rw to at b.attached in
        let offers_too : provider_at t at.number ≡ Some at.provider = at.offers in
        let one : b.provider ≡ at.provider = cc in
        (sym b.above ∙ above, sym b.below ∙ ap (λ (y : Provider). y.geom) one)

    -- an attached consumer makes such an edge
    attached_edge : (at : IsAttached t c) → Below t at.consumer.geom at.provider.geom
    attached_edge at = record {
      consumer = at.consumer;
      stands = find-Contains (λ (x : Consumer). x.number == c) t.consumers at.consumer at.stands;
      above = refl;
      provider = at.provider;
      attached = let to : at.consumer.provider ≡ Some at.number = at.at in rw to at.offers;
      below = refl;
    }

    -- the removal of an attached consumer takes one edge away
    pub removed-edge : (at : IsAttached t c) → AddsEdge (remove_consumer t c) t at.consumer.geom at.provider.geom
    removed-edge at = record {
      geoms = refl;
      old = removed-edges;
      new = attached_edge at;
      only = λ g h b.
          elim (cases_Bool (b.consumer.number == c)) [
            | inl e ↦ inr (lost_edge at g h b e)
            | inr other ↦ inl (staying_edge g h b other)
          ];
    }

    -- one that is attached to nothing makes none
    no_edge : (consumer : Consumer) → consumer_at t c ≡ Some consumer → consumer.provider ≡ None
        → (g h : ℕ) (b : Below t g h) → (b.consumer.number == c) ≡ true → ⊥
    no_edge consumer stands free g h b e =
        let same : b.consumer ≡ consumer =
        only_consumer t order c consumer stands b.consumer b.stands (eqb-true b.consumer.number c e) in
        let loose : b.consumer.provider ≡ None = ap (λ (x : Consumer). x.provider) same ∙ free in
        let none : option_and_then (provider_at t) None ≡ Some b.provider = rw loose at b.attached in
        cc

    -- the removal of one that is attached to nothing takes none away
    pub loose-edges : (consumer : Consumer) → consumer_at t c ≡ Some consumer → consumer.provider ≡ None
        → (g h : ℕ) → Below t g h → Below (remove_consumer t c) g h
    loose-edges consumer stands free g h b =
        elim (cases_Bool (b.consumer.number == c)) [
          | inl e ↦ absurd (no_edge consumer stands free g h b e)
          | inr other ↦ staying_edge g h b other
        ]

    -- a detach takes away the same edge as the removal
    detached_edge : (g h : ℕ) → Below (detach t c) g h → Below (remove_consumer t c) g h
    detached_edge g h b =
        let o = map-Contains (changed (λ (y : Consumer). y.number == c) (λ y. record y { provider = None }))
        t.consumers b.consumer b.stands in
        from o.item o.stands o.fact (o.item.number == c) refl
      where
        -- a consumer with an edge isn't the one that is detached
        from : (x : Consumer) → Contains t.consumers x
            → changed (λ (y : Consumer). y.number == c) (λ y. record y { provider = None }) x ≡ b.consumer
            → (d : Bool) → (x.number == c) ≡ d → Below (remove_consumer t c) g h
        from x here is true e =
            let whole : record x { provider = None } ≡ b.consumer = rw e at is in
            let loose : b.consumer.provider ≡ None = sym (ap (λ (y : Consumer). y.provider) whole) in
            let none : option_and_then (provider_at t) None ≡ Some b.provider = rw loose at b.attached in
            absurd (let bad : ⊥ = cc in bad)
        from x here is false e =
            let whole : x ≡ b.consumer = rw e at is in
            record {
              consumer = b.consumer;
              stands = subst (Contains (remove_consumer t c).consumers) whole (stays x here e);
              above = b.above;
              provider = b.provider;
              attached = b.attached;
              below = b.below;
            }

    -- and a detach leaves the same edges as the removal
    remaining_edge : (g h : ℕ) → Below (remove_consumer t c) g h → Below (detach t c) g h
    remaining_edge g h b =
        let both = filter-Contains (λ (y : Consumer). not (y.number == c)) t.consumers b.consumer b.stands in
        let other : (b.consumer.number == c) ≡ false = not-true (b.consumer.number == c) both.1 in
        let same : changed (λ (y : Consumer). y.number == c) (λ y. record y { provider = None }) b.consumer
        ≡ b.consumer = rw other refl in
        record {
          consumer = b.consumer;
          stands = subst (Contains (detach t c).consumers) same
              (Contains-map (changed (λ (y : Consumer). y.number == c) (λ y. record y { provider = None }))
              t.consumers b.consumer both.0);
          above = b.above;
          provider = b.provider;
          attached = b.attached;
          below = b.below;
        }

    -- a detach takes one edge away
    pub detach-edge : (at : IsAttached t c) → AddsEdge (detach t c) t at.consumer.geom at.provider.geom
    detach-edge at = record {
      geoms = refl;
      old = λ g h b. removed-edges g h (detached_edge g h b);
      new = attached_edge at;
      only = λ g h b.
          elim ((removed-edge at).only g h b) [
            | inl old ↦ inl (remaining_edge g h old)
            | inr ends ↦ inr ends
          ];
    }

module _ {C : Type 0} (t : Topology C) (geom : ℕ) (o : Option ℕ) where
  -- with one consumer more all edges stay
  pub added-edges : (g h : ℕ) → Below t g h → Below (add_consumer t geom o) g h
  added-edges g h b = record {
    consumer = b.consumer;
    stands = Contains-append_left t.consumers _ b.consumer b.stands;
    above = b.above;
    provider = b.provider;
    attached = b.attached;
    below = b.below;
  }

  -- the edge of a consumer that was there was there too
  former_edge : (g h : ℕ) (b : Below (add_consumer t geom o) g h) → Contains t.consumers b.consumer → Below t g h
  former_edge g h b here = record {
    consumer = b.consumer;
    stands = here;
    above = b.above;
    provider = b.provider;
    attached = b.attached;
    below = b.below;
  }

  -- the new consumer
  abbrev made : Consumer
  made = record { number = t.next_consumer; geom = geom; provider = o; spoiled = false }

  -- a new consumer that is attached to nothing adds no edge
  pub unattached-edges : o ≡ None → (g h : ℕ) → Below (add_consumer t geom o) g h → Below t g h
  unattached-edges none g h b =
      elim (Contains-push_cases t.consumers made b.consumer b.stands) [
        | inl here ↦ former_edge g h b here
        | inr same ↦
            let loose : b.consumer.provider ≡ None = sym (ap (λ (y : Consumer). y.provider) same) ∙ none in
            let nowhere : option_and_then (provider_at t) None ≡ Some b.provider = rw loose at b.attached in
            absurd (let bad : ⊥ = cc in bad)
      ]

  -- one that is attached adds one
  pub opened-edge : (p : ℕ) (provider : Provider) → o ≡ Some p → provider_at t p ≡ Some provider
      → AddsEdge t (add_consumer t geom o) geom provider.geom
  opened-edge p provider to offers = record {
    geoms = refl;
    old = added-edges;
    new = record {
      consumer = made;
      stands = Contains-push t.consumers made;
      above = refl;
      provider = provider;
      attached = rw to offers;
      below = refl;
    };
    only = λ g h b.
        elim (Contains-push_cases t.consumers made b.consumer b.stands) [
          | inl here ↦ inl (former_edge g h b here)
          | inr same ↦
              let attached : b.consumer.provider ≡ Some p = sym (ap (λ (y : Consumer). y.provider) same) ∙ to in
              let leads : provider_at t p ≡ Some b.provider = rw attached at b.attached in
              let one : b.provider ≡ provider = cc in
              let above : b.consumer.geom ≡ geom = sym (ap (λ (y : Consumer). y.geom) same) in
              inr (sym b.above ∙ above, sym b.below ∙ ap (λ (y : Provider). y.geom) one)
        ];
  }
