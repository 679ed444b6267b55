-- The taste's consumer comes and goes: TASTE has it attached to any provider without an error, no count changes by
-- it, and the mesh is settled still.
use Rattle.std.proofs.Common.{◌≡◌, ℕ, nat_lt, true, false, not, ◌&&◌, [], Some, None, IsSome, Contains, sym, ◌∙◌, ap, refl, subst, eq-eqb, rules}
use Rattle.std.proofs.lemmas.List.Elements.{All-contains, All-filter, All-push}
use Rattle.geo_base.proofs.Options.{there_with_fact, at-some}
use Rattle.geo_access.proofs.Coming.{bare_of}
use Rattle.geo_base.specs.declared.kind.Kind.TheVariants as kinds
use Rattle.geo_base.specs.declared.limits.TheConstants.{MAX_RANK, UNTASTED_RANK}
use Rattle.geo_model.specs.Words.{is_granted_kind}
use Rattle.geo_model.specs.Topology.{Topology, Geom, Provider, geom_at, provider_at, providers_of, is_errored, add_consumer, Consumer, remove_consumer, detach, consumer_at, consumers_of}
use Rattle.geo_model.specs.Rank.{rank, attach_refusal}
use Rattle.geo_mesh.specs.Graph.{IsSoundGraph, IsOffer}
use Rattle.geo_laws_counts.specs.CountWords.{HoldsGrants}
use Rattle.geo_laws_graph.proofs.Lists.{found_itself}
use Rattle.std.specs.Prelude.{◌==◌, Bool, ◌∷◌, unwrap_or, if◌then◌else◌, nat_le, ◌||◌, ◌++◌, find, IfSome, All, option_map}
use Rattle.std.specs.Option.{option_map_or}
use Rattle.std.proofs.lemmas.Bool.{eqb-true, not-false}
use Rattle.geo_model.specs.Demand.{no_counts, want, have}
use Rattle.geo_slots.specs.Slots.{value_at, without}
use Rattle.geo_mesh.specs.Topo.{TopoView, Room, Scratches, no_scratch, with_topology, without_consumer, with_consumer, IsButForRoom}
use Rattle.geo_laws_graph.specs.LookupLaws.{new_consumer}
use Rattle.geo_laws_graph.proofs.Found.{removed-consumer, added-consumer, detached-found}
use Rattle.geo_laws_graph.proofs.TwoChanges.{two-changes}
use Rattle.geo_laws_counts.proofs.LimitFacts.{all_of, of_filter}
use Rattle.geo_laws_counts.proofs.Stays.{consumers_went}
use Rattle.geo_laws_counts.proofs.Openers.{wants_grant}
use Rattle.geo_access.specs.Access.{granted_by, holds_grants, clear_scratches, IsCounted, IsPlaced}
use Rattle.geo_taste.specs.Taster.{with_taster, first_taste, is_low, IsSettled, IsTasteOf}
use Rattle.geo_base.specs.declared.request.Counts.{Counts}
use Rattle.geo_model.specs.Events.{is_not_tasted}
use Rattle.geo_model.specs.World.{Config}
use Rattle.geo_laws_graph.proofs.Numbered.{find-pushed_hit, number_found}
use Rattle.geo_access.proofs.Decided.{item_at, consumer_known}
use Rattle.geo_mesh.proofs.IndexLemmas.{map-filter_row}
use Rattle.geo_base.proofs.FindLists.{find-map}
use Rattle.geo_taste.proofs.Raising.{accepted, CanBeAttached, allowed_can}
use Rattle.geo_taste.proofs.Kept.{kept_counted}
use Rattle.geo_taste.proofs.Adding.{among, stood, no_consumer, consumer_kept}
use Rattle.geo_taste.proofs.Asking.{errored_is}

module _ {C : Type 0} (t : Topology C) (sound : IsSoundGraph t) where
  -- TASTE stands
  pub taste_stands : IsSome (geom_at t 2)
  taste_stands = there_with_fact (λ (x : Geom C). x.kind ≡ kinds.Taste) (geom_at t 2) sound.orderly.first.taste

  -- TASTE holds grants
  pub taste_holds : HoldsGrants t 2
  taste_holds = search rules

  -- it has no provider
  pub taste_bare : providers_of t 2 ≡ []
  taste_bare = bare_of t.providers 2
      (λ z there. (All-contains (λ (w : Provider). IsOffer w) t.providers z sound.orderly.offers there).not_taste)

  -- a geom of the number of TASTE is of that class
  of_taste : (x : Geom C) → Contains t.geoms x → x.number ≡ 2 → is_granted_kind x.kind ≡ true
  of_taste x there same =
      at-some (geom_at t 2) (λ (g : Geom C). is_granted_kind g.kind ≡ true) x
      (ap (geom_at t) (sym same)
      ∙ found_itself (λ (g : Geom C). g.number) t.next_geom t.geoms x sound.orderly.order.geoms there) taste_holds

  -- so nothing refuses to attach it to a provider without an error
  pub taster_allowed : (p : ℕ) (y : Provider) → provider_at t p ≡ Some y → is_errored t p ≡ false
      → attach_refusal (add_consumer t 2 None) t.next_consumer p ≡ None
  taster_allowed p y found fine =
      accepted t sound 2 p y found taste_stands taste_bare fine (λ x there same before.
      ap (λ b. not b && nat_lt MAX_RANK (rank (add_consumer t 2 (Some p)) x.number)) (of_taste x there same))

-- No count changes where it comes

module _ {C : Type 0} (t : TopoView C) (sound : IsSoundGraph t.topology) (counted : IsCounted t) (room : Room) where
  -- what isn't there is granted nothing, so a new consumer of TASTE wants nothing
  taster_quiet : (p : ℕ) → want (granted_by t) t.topology (new_consumer t.topology 2 (Some p)) ≡ no_counts
  taster_quiet p =
      wants_grant (granted_by t) t.topology (new_consumer t.topology 2 (Some p)) (taste_holds t.topology sound)
      ∙ ap (λ o. option_map_or
      (λ (x : Consumer). if holds_grants t.topology x.geom then
      unwrap_or (value_at t.wants t.topology.next_consumer) no_counts else no_counts) o no_counts)
      (no_consumer t counted sound.orderly.order room)

  -- all counts are kept
  pub taster_counted : (p : ℕ) → IsCounted (record (with_taster t p) { room = room })
  taster_counted p =
      kept_counted t (record (with_taster t p) { room = room }) counted
      (consumer_kept t counted sound.orderly.order room 2 p (taster_quiet p))

-- Nor where it goes

-- two changes of a mesh that are one: a consumer that is detached and destroyed is destroyed
pub gone_is : {C : Type 0} (t : TopoView C) (c : ℕ)
    → without_consumer (with_topology t (detach t.topology c)) c ≡ without_consumer t c
gone_is t c = ap (λ u. record (without_consumer t c) { topology = u }) (two-changes.removed t.topology c)

module _ {C : Type 0} (t : TopoView C) (sound : IsSoundGraph t.topology) (counted : IsCounted t) (c : ℕ)
    (quiet : (x : Consumer) → Contains t.topology.consumers x → x.number ≡ c
    → want (granted_by t) t.topology x ≡ no_counts) where
  -- the consumers that stay stood before
  still : (x : Consumer) → Contains (remove_consumer t.topology c).consumers x → Contains t.topology.consumers x
  still x there = (of_filter (λ (y : Consumer). not (y.number == c)) t.topology.consumers x there).0

  -- all counts are kept
  pub goer_counted : IsCounted (without_consumer t c)
  goer_counted =
      search (
        rules,
        kept_counted t (without_consumer t c) counted
            (record {
              order = removed-consumer.order t.topology c sound.orderly.order;
              kinds = counted.kinds;
              haves =
                  counted.haves;
              wants = ap (λ rows. without rows c) counted.wants ∙ map-filter_row
                  (λ (x : Consumer). x.number) (want (granted_by t) t.topology) c t.topology.consumers;
              stays = among
                  (granted_by t) t.topology (remove_consumer t.topology c) (remove_consumer t.topology c).consumers
                  (consumers_went (granted_by t) t.topology (λ (x : Consumer). not (x.number == c))
                  (all_of (λ (x : Consumer). not (x.number == c) ≡ false → want (granted_by t) t.topology x ≡ no_counts)
                  t.topology.consumers
                  (λ x there goes. quiet x there (eqb-true x.number c (not-false (x.number == c) goes)))));
              classes = λ x
                  there. refl;
              known = λ x there. stood t counted sound.orderly.order t.room x (still x there);
              risen =
                  counted.risen;
              fallen = counted.fallen;
              clear = ap
                  (λ (s : Scratches). record s { consumers = without s.consumers c }) counted.clear ∙ ap
                  (λ rows. record (clear_scratches t.topology) { consumers = rows })
                  (map-filter_row (λ (x : Consumer). x.number) (λ (x : Consumer). no_scratch) c t.topology.consumers);
            }),
      )

-- what is kept doesn't tell the room
pub settled_roomed : {C : Type 0} (t : TopoView C) (room : Room) → IsSettled t → IsSettled (record t { room = room })
settled_roomed t room is = search rules

-- where each consumer is attached, none that isn't is of a geom with providers
pub settled_placed : {C : Type 0} (t : Topology C) → All (λ (c : Consumer). IsSome c.provider) t.consumers → IsPlaced t
settled_placed t attached = search rules

-- Whether a provider is tasted

module _ {C : Type 0} (t : TopoView C) where
  -- what a provider that is tasted is
  pub record IsTasted (p : ℕ) : Type 0 where
    pub provider : Provider
    pub found : provider_at t.topology p ≡ Some provider
    pub sound : is_errored t.topology p ≡ false

  -- is what the test says
  pub tasted_is : (p : ℕ) → is_not_tasted (granted_by t) t.topology p ≡ false → IsTasted p
  tasted_is p tasted = search rules

  module _ (sound : IsSoundGraph t.topology) (counted : IsCounted t) (p : ℕ) (x : Provider)
      (found : provider_at t.topology p ≡ Some x) where
    -- whether the geom withers or is too high
    abbrev high : Bool
    high = option_map_or (λ (g : Geom C). g.withering || nat_le UNTASTED_RANK (rank t.topology g.number))
        (geom_at t.topology x.geom) true

    -- the stored counts of the provider
    have_is : (a : Counts) → value_at t.haves p ≡ Some a → have (granted_by t) t.topology p ≡ a
    have_is a stored =
        let number : x.number ≡ p = number_found (λ (y : Provider). y.number) t.topology.providers p x found in
        let e : Some (have (granted_by t) t.topology x.number) ≡ Some a =
        sym (ap (λ rows. value_at rows p) counted.haves
        ∙ item_at (λ (y : Provider). y.number) (λ (y : Provider). have (granted_by t) t.topology y.number) p
        t.topology.providers x found) ∙ stored in
        ap (have (granted_by t) t.topology) (sym number) ∙ ap (λ o. unwrap_or o a) e

    -- it isn't where it carries an error, its geom withers or is too high, or it is written
    pub tasted_told : (a : Counts) → value_at t.haves p ≡ Some a
        → is_not_tasted (granted_by t) t.topology p ≡ (x.errored || (high || not (a.w == 0)))
    tasted_told a stored =
        search (
          rules,
          errored_is t.topology sound.orderly.order p x found,
          ap (λ (h : Counts). x.errored || (high || not (h.w == 0))) (have_is a stored),
          have_is a stored,
        )

    -- so an error is enough for it not to be, and so is a writer
    pub errored_not : (a : Counts) → value_at t.haves p ≡ Some a → x.errored ≡ true
        → false ≡ not (is_not_tasted (granted_by t) t.topology p)
    errored_not a stored errored = search (rules, tasted_told a stored)

    pub written_not : (a : Counts) → value_at t.haves p ≡ Some a → not (a.w == 0) ≡ true
        → false ≡ not (is_not_tasted (granted_by t) t.topology p)
    written_not a stored more = search (rules, tasted_told a stored)

    -- else its geom decides
    pub low_tasted : (a : Counts) → value_at t.haves p ≡ Some a → x.errored ≡ false → not (a.w == 0) ≡ false
        → is_low t.topology x.geom ≡ not (is_not_tasted (granted_by t) t.topology p)
    low_tasted a stored good none = search (rules, tasted_told a stored)

-- Beginning

-- nothing refuses to attach the new consumer of TASTE to a provider that is tasted
pub taster_can : (t m : TopoView Config) (p cons : ℕ) {geom : ℕ} → geom ≡ 2 → cons ≡ t.topology.next_consumer
    → IsSoundGraph t.topology → IsButForRoom m (with_consumer t geom)
    → is_not_tasted (granted_by t) t.topology p ≡ false → CanBeAttached t m 2 p cons
taster_can t m p cons taste number sound added tasted =
    let is : IsTasted t p = tasted_is t p tasted in
    allowed_can t m 2 p cons number sound (subst (λ n. IsButForRoom m (with_consumer t n)) taste added)
    (taster_allowed t.topology sound p is.provider is.found is.sound)

-- with it the mesh is settled
pub taster_settled : {C : Type 0} (t : TopoView C) → IsSoundGraph t.topology → IsSettled t → (p : ℕ) (room : Room)
    → IsSettled (record (with_taster t p) { room = room })
taster_settled t sound is p room = record {
  counted = taster_counted t sound is.counted room p;
  quiet = record { risen = is.quiet.risen; fallen = is.quiet.fallen };
  attached = All-push (λ (c : Consumer). IsSome c.provider) t.topology.consumers
      (new_consumer t.topology 2 (Some p)) is.attached refl;
}

-- its consumer is the only one of TASTE, where there was none
pub taster_tasting : (t : TopoView Config) → IsSoundGraph t.topology → IsCounted t → (p : ℕ) (room : Room)
    → consumers_of t.topology 2 ≡ []
    → IsTasteOf (record (with_taster t p) { room = room }) (first_taste p t.topology.next_consumer)
taster_tasting t sound counted p room alone =
    let n : ℕ = t.topology.next_consumer in
    let row : Consumer → ℕ × Counts = λ c. (c.number, want (granted_by t) t.topology c) in
    record {
      tasting = record {
        consumer = new_consumer t.topology 2 (Some p);
        alone = added-consumer.own t.topology 2 (Some p)
            ∙ ap (λ cs. cs ++ new_consumer t.topology 2 (Some p) ∷ []) alone;
        number = refl;
        attached = refl;
      };
      holds = ap (λ o. option_map (λ (row : ℕ × Counts). row.1) o)
          (find-pushed_hit (λ (row : ℕ × Counts). row.0 == n) t.wants (n, no_counts)
          (ap (find (λ (row : ℕ × Counts). row.0 == n)) counted.wants
          ∙ find-map (λ (row : ℕ × Counts). row.0 == n) row t.topology.consumers
          ∙ ap (option_map row) (no_consumer t counted sound.orderly.order t.room))
          (eq-eqb n n refl));
    }

-- Ending

module _ {C : Type 0} (t : TopoView C) (sound : IsSoundGraph t.topology) (is : IsSettled t) (c : ℕ) where
  -- a consumer that is detached is attached to nothing
  pub detached_there : (x : Consumer) → consumer_at t.topology c ≡ Some x
      → IfSome (consumer_at (detach t.topology c) c) (λ y. y.provider ≡ None)
  detached_there x found =
      subst (λ o. IfSome o (λ (y : Consumer). y.provider ≡ None)) (sym (detached-found.here t.topology c x found)) refl

  -- a consumer that holds nothing wants nothing
  stored_none : value_at t.wants c ≡ Some no_counts → (x : Consumer) → Contains t.topology.consumers x → x.number ≡ c
      → want (granted_by t) t.topology x ≡ no_counts
  stored_none stored x there same =
      search (
        rules,
        item_at (λ (y : Consumer). y.number) (want (granted_by t) t.topology) x.number t.topology.consumers x
            (consumer_known t sound x there),
      )

  -- without it the mesh is settled
  pub goer_settled : value_at t.wants c ≡ Some no_counts → IsSettled (without_consumer t c)
  goer_settled stored = record {
    counted = goer_counted t sound is.counted c (stored_none stored);
    quiet = record { risen = is.quiet.risen; fallen = is.quiet.fallen };
    attached = All-filter (λ (x : Consumer). not (x.number == c)) (λ (x : Consumer). IsSome x.provider)
        t.topology.consumers is.attached;
  }
