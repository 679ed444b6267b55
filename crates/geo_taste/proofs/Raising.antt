-- A new geom gets its consumers, which are attached to the providers below it, whatever room is kept meanwhile.
use Rattle.std.proofs.Common.{◌≡◌, ℕ, ◌+◌, ◌<◌, ◌≤◌, nat_lt, max, Bool, true, false, not, ◌&&◌, List, [], ◌∷◌, Some, None, IsSome, IsSomeAnd, length, drop, get_or, ◌≢◌, All, Contains, ◌∙◌, ap, subst, refl, sym, arith, inr, inl, rules}
use Rattle.geo_mesh.specs.Topo.{TopoView, Room, with_consumer, with_topology, IsButForRoom, with_geom}
use Rattle.geo_model.specs.World.{Config}
use Rattle.geo_event.specs.EventQueue.{Queued}
use Rattle.geo_taste.specs.Making.{QueuedMesh, both, AreBoth, with_attached, with_all_attached, with_geom_on, with_offer}
use Rattle.std.specs.List.{list_any, AllByRecursion}
use Rattle.geo_model.specs.Words.{is_granted_kind}
use Rattle.geo_model.specs.Topology.{Topology, Geom, Provider, Consumer, geom_at, provider_at, consumer_at, providers_of, add_consumer, attach, is_errored, add_geom, is_name_taken, is_withering}
use Rattle.geo_model.specs.Rank.{rank, would_loop, is_too_deep, attach_refusal}
use Rattle.geo_mesh.specs.Graph.{IsSoundGraph}
use Rattle.std.proofs.lemmas.Bool.{ltb-false, le-ltb, cases_eq}
use Rattle.geo_base.proofs.AllLists.{all_weaker}
use Rattle.geo_base.specs.declared.limits.TheConstants.{MAX_RANK}
use Rattle.geo_laws_graph.specs.LookupLaws.{new_consumer, new_geom}
use Rattle.geo_laws_graph.proofs.Found.{added-consumer, added-geom}
use Rattle.geo_laws_graph.proofs.TwoChanges.{two-changes}
use Rattle.geo_laws_graph.specs.RankChangeLaws.{OneRankRises}
use Rattle.geo_laws_graph.proofs.EdgeRanks.{reaches-none}
use Rattle.geo_laws_graph.proofs.Opens.{open-rises, open-other, offers-nothing}
use Rattle.geo_laws_life.proofs.Found.{found-with, some-with, some-there, none-there}
use Rattle.geo_taste.specs.Standing.{CanStandOn, MayOffer}
use Rattle.std.proofs.Math.ListN.{drop_of_length-le}
use Rattle.geo_base.proofs.PlaceLists.{first_left}
use Rattle.std.proofs.lemmas.List.Elements.{recursion_from_All}
use Rattle.geo_base.proofs.Options.{there_with_fact}
use Rattle.geo_base.specs.declared.kind.Kind.{Kind}
use Rattle.geo_laws_graph.proofs.Lists.{found_fresh}
use Rattle.geo_laws_graph.proofs.RankChanges.{adding-stay}
use Rattle.geo_taste.proofs.Asking.{errored_is, withering_is}
use Rattle.geo_laws_graph.proofs.Members.{All-from_contained, at_contained}

-- One change of the mesh and its events after another

-- with another room
abbrev pub with_room : QueuedMesh → Room → QueuedMesh
with_room m room = record m { mesh = record m.mesh { room = room } }

-- a change to which the room doesn't matter
abbrev pub CarriesRoom : (QueuedMesh → QueuedMesh) → Type 0
CarriesRoom change = (m : QueuedMesh) (room : Room) → change (with_room m room) ≡ with_room (change m) room

-- a change after others
pub followed : (change : QueuedMesh → QueuedMesh) → CarriesRoom change
    → (t u : TopoView Config) (q r : Queued) (m : QueuedMesh)
    → AreBoth t q m → AreBoth u r (change (both t q)) → AreBoth u r (change m)
followed change carries t u q r m first then = search rules

-- A new consumer of a geom without providers

-- a test that no item passes
none_any : {X : Type 0} (test : X → Bool) (xs : List X) → AllByRecursion (λ x. test x ≡ false) xs
    → list_any test xs ≡ false
none_any test [] none = refl
none_any test (x ∷ xs) none = rw (none.0, none_any test xs none.1) refl

-- each item of a list that no item passes
any_none : {X : Type 0} (test : X → Bool) (xs : List X) → list_any test xs ≡ false
    → AllByRecursion (λ x. test x ≡ false) xs
any_none test [] none = tt
any_none test (x ∷ xs) none = search (rules, any_none test xs)

-- a rank that is no greater than one that isn't too great, or than the limit, isn't too great
deep_by : (granted : Bool) (n m : ℕ) → m ≤ max n MAX_RANK → (not granted && nat_lt MAX_RANK n) ≡ false
    → (not granted && nat_lt MAX_RANK m) ≡ false
deep_by true n m less e = refl
deep_by false n m less e =
    let few : n ≤ MAX_RANK = ltb-false MAX_RANK n e in
    le-ltb MAX_RANK m (omega arith)

-- whether a geom is too deep
abbrev pub is_deep : {C : Type 0} → Topology C → Geom C → Bool
is_deep t y = not (is_granted_kind y.kind) && nat_lt MAX_RANK (rank t y.number)

module _ {C : Type 0} (t : Topology C) (sound : IsSoundGraph t) (geom prov : ℕ) (x : Provider)
    (found : provider_at t prov ≡ Some x) (lives : IsSome (geom_at t geom)) (bare : providers_of t geom ≡ []) where
  -- the graph with the consumer
  abbrev with_one : Topology C
  with_one = add_consumer t geom (Some prov)

  -- before it is attached
  abbrev loose : Topology C
  loose = add_consumer t geom None

  -- the geom doesn't get too deep
  abbrev pub StaysShallow : Type 0
  StaysShallow =
      (y : Geom C) → Contains t.geoms y → y.number ≡ geom → is_deep t y ≡ false → is_deep with_one y ≡ false

  -- only the rank of the geom rises
  rises : OneRankRises t with_one geom × (rank with_one geom ≡ max (rank t geom) (1 + rank t x.geom))
  rises = open-rises t geom prov x sound.ranked sound.orderly.parts.geoms lives bare found

  -- then none gets too deep
  no_deeper : StaysShallow → (y : Geom C) → Contains t.geoms y → is_deep with_one y ≡ false
  no_deeper stays y there =
      let before : is_deep t y ≡ false =
      at_contained (λ (z : Geom C). is_deep t z ≡ false) t.geoms y (any_none (is_deep t) t.geoms sound.not_deep)
      there in
      elim (cases_eq y.number geom) [
        | inl same ↦ stays y there same before
        | inr other ↦ ap (λ n. not (is_granted_kind y.kind) && nat_lt MAX_RANK n) (rises.0.same y.number other) ∙ before
      ]

  not_deep : StaysShallow → is_too_deep with_one ≡ false
  not_deep stays =
      none_any (is_deep with_one) t.geoms
      (All-from_contained (λ (y : Geom C). is_deep with_one y ≡ false) t.geoms (no_deeper stays))

  -- and no loop comes
  no_loop : would_loop loose (consumer_at loose t.next_consumer) (provider_at loose prov) ≡ false
  no_loop =
      ap (λ c. would_loop loose c (provider_at loose prov)) (added-consumer.new t geom None sound.orderly.order)
      ∙ ap (would_loop loose (Some (new_consumer t geom None))) found
      ∙ reaches-none loose x.geom geom bare
      (open-other t geom prov x sound.ranked sound.orderly.parts.geoms lives bare found)

  -- so the attach isn't refused
  pub accepted : is_errored t prov ≡ false → StaysShallow → attach_refusal loose t.next_consumer prov ≡ None
  accepted fine stays =
      rw (fine, no_loop, two-changes.made t geom prov sound.orderly.order, not_deep stays) refl

  -- above a provider whose geom is low enough it doesn't get too deep
  pub low_stays : rank t x.geom < MAX_RANK → StaysShallow
  low_stays low y there is before =
      let above : rank with_one geom ≡ max (rank t geom) (1 + rank t x.geom) = rises.1 in
      deep_by (is_granted_kind y.kind) (rank t y.number) (rank with_one y.number) (rw is (omega arith)) before

  -- what else the geom may stand on, it still may
  pub still_at : (other : ℕ) → CanStandOn t other → CanStandOn with_one other
  still_at other can =
      let y = found-with (provider_at t other) (λ p. (p.errored ≡ false) × (rank t p.geom < MAX_RANK)) can in
      let same : rank with_one y.item.geom ≡ rank t y.item.geom = rises.0.same y.item.geom
      (open-other t geom other y.item sound.ranked sound.orderly.parts.geoms lives bare y.is) in
      search rules

-- a consumer that was just made in a mesh can be attached, and then the mesh is the one with a consumer attached
pub record CanBeAttached (t u : TopoView Config) (geom prov cons : ℕ) : Type 0 where
  pub consumer : IsSomeAnd (consumer_at u.topology cons) (λ x. x.provider ≡ None)
  pub accepted : attach_refusal u.topology cons prov ≡ None
  pub attached : with_topology u (attach u.topology cons prov) ≡ record (with_attached t geom prov) { room = u.room }

-- so it is where nothing refuses the attach
pub allowed_can : (t u : TopoView Config) (geom prov cons : ℕ) → cons ≡ t.topology.next_consumer
    → IsSoundGraph t.topology → IsButForRoom u (with_consumer t geom)
    → attach_refusal (add_consumer t.topology geom None) t.topology.next_consumer prov ≡ None
    → CanBeAttached t u geom prov cons
allowed_can t u geom prov cons number sound made allowed =
    search (
      rules,
      some-with (consumer_at (add_consumer t.topology geom None) t.topology.next_consumer)
          (λ (y : Consumer). y.provider ≡ None) (new_consumer t.topology geom None)
          (added-consumer.new t.topology geom None sound.orderly.order),
      ap
          (λ (v : TopoView Config). with_topology (record v { room = u.room })
          (attach v.topology t.topology.next_consumer prov)) made,
      ap (with_topology (record (with_consumer t geom) { room = u.room }))
          (two-changes.made t.topology geom prov sound.orderly.order),
    )

-- as nothing does where the geom has no provider and may stand on the one
pub attach_can : (t u : TopoView Config) (geom prov cons : ℕ) → cons ≡ t.topology.next_consumer
    → IsSoundGraph t.topology → IsButForRoom u (with_consumer t geom)
    → IsSome (geom_at t.topology geom) → providers_of t.topology geom ≡ [] → CanStandOn t.topology prov
    → CanBeAttached t u geom prov cons
attach_can t u geom prov cons number sound made lives bare can =
    let x = found-with (provider_at t.topology prov)
    (λ p. (p.errored ≡ false) × (rank t.topology p.geom < MAX_RANK)) can in
    allowed_can t u geom prov cons number sound made
    (accepted t.topology sound geom prov x.item x.is lives bare
    (errored_is t.topology sound.orderly.order prov x.item x.is ∙ x.fact.0)
    (low_stays t.topology sound geom prov x.item x.is lives bare x.fact.1))

-- after the attach
pub attached_is : (t u v : TopoView Config) (geom prov cons : ℕ) → CanBeAttached t u geom prov cons
    → v ≡ with_topology u (attach u.topology cons prov) → IsButForRoom v (with_attached t geom prov)
attached_is t u v geom prov cons can e = search rules

-- and then the others can be stood on still
pub attach_more : (t u : TopoView Config) (geom prov : ℕ) (provs : List ℕ) → IsSoundGraph t.topology
    → IsButForRoom u (with_attached t geom prov)
    → IsSome (geom_at t.topology geom) → providers_of t.topology geom ≡ [] → CanStandOn t.topology prov
    → AllByRecursion (CanStandOn t.topology) provs → AllByRecursion (CanStandOn u.topology) provs
attach_more t u geom prov provs sound made lives bare can all =
    search (
      rules,
      all_weaker (CanStandOn t.topology) (CanStandOn (add_consumer t.topology geom (Some prov))),
      still_at t.topology sound geom prov,
    )

-- another room is carried along
pub attached_roomed : (t : TopoView Config) (room : Room) (geom : ℕ) (provs : List ℕ)
    → with_all_attached (record t { room = room }) geom provs
    ≡ record (with_all_attached t geom provs) { room = room }
attached_roomed t room geom [] = refl
attached_roomed t room geom (prov ∷ provs) = attached_roomed (with_attached t geom prov) room geom provs

-- One after another

-- how far the consumers are made: what is left makes of this mesh what all make of the first one
pub record AttachedSoFar (t u : TopoView Config) (geom : ℕ) (rest all : List ℕ) : Type 0 where
  pub same : record (with_all_attached u geom rest) { room = t.room }
      ≡ record (with_all_attached t geom all) { room = t.room }
  pub stand : AllByRecursion (CanStandOn u.topology) rest
  pub lives : IsSome (geom_at u.topology geom)
  pub bare : providers_of u.topology geom ≡ []
  pub room : length rest ≤ u.room.consumers
  pub other_room : u.room ≡ record t.room { consumers = u.room.consumers }

-- what the making of one leaves
pub record IsOneMore (u v : TopoView Config) (geom prov : ℕ) : Type 0 where
  pub attached : IsButForRoom v (with_attached u geom prov)
  pub sound : IsSoundGraph u.topology
  pub room : u.room.consumers ≤ v.room.consumers + 1
  pub other_room : v.room ≡ record u.room { consumers = v.room.consumers }

-- one more is made
one_more : (t u v : TopoView Config) (geom prov : ℕ) (rest all : List ℕ) → AttachedSoFar t u geom (prov ∷ rest) all
    → IsOneMore u v geom prov → AttachedSoFar t v geom rest all
one_more t u v geom prov rest all far one =
    search (
      rules,
      attached_roomed (with_attached u geom prov) v.room geom rest,
      attach_more u v geom prov rest one.sound one.attached far.lives far.bare far.stand.0 far.stand.1,
    )

module _ {t u : TopoView Config} {geom : ℕ} {provs : List ℕ} (i : ℕ)
    (far : AttachedSoFar t u geom (drop i provs) provs) where
  -- one of the list
  pub attach_step : (v : TopoView Config) {prov : ℕ} → i < length provs → prov ≡ get_or provs i prov
      → IsOneMore u v geom prov → AttachedSoFar t v geom (drop (i + 1) provs) provs
  attach_step v {prov} less is one =
      one_more t u v geom prov (drop (i + 1) provs) provs
      (subst (λ xs. AttachedSoFar t u geom xs provs) (first_left provs i prov less is) far) one

  -- at the end all are made
  pub attach_end : length provs ≤ i → IsButForRoom u (with_all_attached t geom provs)
  attach_end all = search (rules, drop_of_length-le provs all)

-- A new geom

module _ {C : Type 0} (t : Topology C) (sound : IsSoundGraph t) where
  -- the next geom isn't one that is there
  not_there : (n : ℕ) → IsSome (geom_at t n) → t.next_geom ≢ n
  not_there n there same =
      none-there (geom_at t n)
      (found_fresh (λ (y : Geom C). y.number) t.next_geom n t.geoms sound.orderly.order.geoms
      (omega (arith, same))) there

  -- so not DEV
  pub new_not_dev : t.next_geom ≢ 1
  new_not_dev = not_there 1 (there_with_fact _ (geom_at t 1) sound.orderly.first.dev)

  -- and not TASTE
  pub new_not_taste : t.next_geom ≢ 2
  new_not_taste = not_there 2 (there_with_fact _ (geom_at t 2) sound.orderly.first.taste)

  -- it doesn't wither
  new_stays : is_withering t t.next_geom ≡ false
  new_stays =
      withering_is t sound.orderly.order t.next_geom None
      (found_fresh (λ (y : Geom C). y.number) t.next_geom t.next_geom t.geoms sound.orderly.order.geoms (omega arith))

  module _ (kind : Kind) (name : List ℕ) (config : C) (automatic : Bool) where
    -- the graph with the geom
    abbrev more : Topology C
    more = add_geom t kind name config automatic

    -- it stands
    new_lives : IsSome (geom_at more t.next_geom)
    new_lives =
        some-there (geom_at more t.next_geom) (new_geom t kind name config automatic)
        (added-geom.new t kind name config automatic sound.orderly.order)

    -- and may get a provider
    pub new_may : MayOffer more t.next_geom
    new_may = record {
      lives = new_lives;
      stays = added-geom.withering t kind name config automatic t.next_geom ∙ new_stays;
      not_dev = new_not_dev;
      not_taste = new_not_taste;
    }

    -- what could be stood on still can
    pub stands_still : (prov : ℕ) → CanStandOn t prov → CanStandOn more prov
    stands_still prov can =
        let x = found-with (provider_at t prov) (λ p. (p.errored ≡ false) × (rank t p.geom < MAX_RANK)) can in
        let same : rank more x.item.geom ≡ rank t x.item.geom =
        (adding-stay.geom t kind name config automatic sound.ranked sound.orderly.parts.geoms).same x.item.geom in
        search rules

-- what a new geom of a mesh needs to get its consumers
pub record CanRise (u : Topology Config) (geom : ℕ) (provs : List ℕ) : Type 0 where
  pub lives : IsSome (geom_at u geom)
  pub bare : providers_of u geom ≡ []
  pub stand : AllByRecursion (CanStandOn u) provs
  pub may : MayOffer u geom

module _ (t u : TopoView Config) (kind : Kind) (name : List ℕ) (config : Config) (automatic : Bool)
    (made : IsButForRoom u (with_geom t kind name config automatic)) where
  -- the graph with it
  graph : u.topology ≡ add_geom t.topology kind name config automatic
  graph = ap (λ (v : TopoView Config). v.topology) made

  -- it has that
  pub can_rise : (provs : List ℕ) → IsSoundGraph t.topology → All (CanStandOn t.topology) provs
      → CanRise u.topology t.topology.next_geom provs
  can_rise provs sound all =
      subst (λ (g : Topology Config). CanRise g t.topology.next_geom provs) (sym graph) (record {
        lives = (new_may t.topology sound kind name config automatic).lives;
        bare = offers-nothing t.topology sound.orderly.order sound.orderly.parts.offerers;
        stand = all_weaker (CanStandOn t.topology) (CanStandOn (add_geom t.topology kind name config automatic))
            (stands_still t.topology sound kind name config automatic) provs
            (recursion_from_All (CanStandOn t.topology) provs all);
        may = new_may t.topology sound kind name config automatic;
      })

  -- with its consumers it is the one over the providers
  pub risen_is : (v : TopoView Config) (provs : List ℕ)
      → IsButForRoom v (with_all_attached u t.topology.next_geom provs)
      → IsButForRoom v (with_geom_on t kind name config automatic provs)
  risen_is v provs all =
      all
      ∙ ap (λ (x : TopoView Config). record (with_all_attached x t.topology.next_geom provs) { room = v.room }) made
      ∙ ap (λ (x : TopoView Config). record x { room = v.room })
      (attached_roomed (with_geom t kind name config automatic) u.room t.topology.next_geom provs)

-- consumers change no geom
pub same_geoms : (t : TopoView Config) (geom : ℕ) (provs : List ℕ)
    → (with_all_attached t geom provs).topology.geoms ≡ t.topology.geoms
same_geoms t geom [] = refl
same_geoms t geom (prov ∷ provs) = same_geoms (with_attached t geom prov) geom provs

-- so a geom may get a provider still
pub still_may : (u v : TopoView Config) (geom : ℕ) (provs : List ℕ)
    → IsButForRoom v (with_all_attached u geom provs)
    → MayOffer u.topology geom → MayOffer v.topology geom
still_may u v geom provs all may = search (rules, same_geoms u geom provs)

-- After room was kept

-- consumers change no provider
same_providers : (t : TopoView Config) (geom : ℕ) (provs : List ℕ)
    → (with_all_attached t geom provs).topology.providers ≡ t.topology.providers
same_providers t geom [] = refl
same_providers t geom (prov ∷ provs) = same_providers (with_attached t geom prov) geom provs

module _ (t u v : TopoView Config) (kind : Kind) (name : List ℕ) (config : Config) (automatic : Bool)
    (provs : List ℕ) (kept : IsButForRoom u t)
    (risen : IsButForRoom v (with_geom_on u kind name config automatic provs)) where
  -- the geom is one of the mesh before
  pub risen_over : IsButForRoom v (with_geom_on t kind name config automatic provs)
  risen_over =
      risen
      ∙ ap (λ (x : TopoView Config). record (with_geom_on x kind name config automatic provs) { room = v.room }) kept
      ∙ ap (λ (x : TopoView Config). record x { room = v.room })
      (attached_roomed (with_geom t kind name config automatic) u.room t.topology.next_geom provs)

  -- it has the same providers
  pub risen_providers : v.topology.providers ≡ t.topology.providers
  risen_providers =
      search (rules, risen_over, same_providers (with_geom t kind name config automatic) t.topology.next_geom provs)

  -- a name that was free still is
  pub risen_free : (other : List ℕ) → is_name_taken t.topology other ≡ false
      → is_name_taken v.topology other ≡ false
  risen_free other free = search (rules, risen_providers)

  -- its provider comes next
  pub risen_offered : (w : TopoView Config) (q r s : Queued) (geom : ℕ) (other : List ℕ) (size sector : ℕ)
      → r.events ≡ q.events → geom ≡ t.topology.next_geom
      → AreBoth w s (with_offer (both v r) geom other size sector)
      → AreBoth w s (with_offer (record (both t q) { mesh = with_geom_on t kind name config automatic provs })
      t.topology.next_geom other size sector)
  risen_offered w q r s geom other size sector same number made =
      followed (λ m. with_offer m t.topology.next_geom other size sector) (λ m room. refl) v w r s
      (record (both t q) { mesh = with_geom_on t kind name config automatic provs })
      (record { mesh = risen_over; events = same })
      (subst (λ n. AreBoth w s (with_offer (both v r) n other size sector)) number made)
