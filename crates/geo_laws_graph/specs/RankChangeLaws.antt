-- What each change of one thing does to ranks, for any configuration C of a class.
use Rattle.std.specs.Prelude.{◌⊎◌, ◌≡◌, ◌≢◌, ◌↔◌, ℕ, ◌+◌, ◌≤◌, max, Bool, true, false, List, [], Some, None, IsSome, All}
use Rattle.geo_model.specs.Kind.{Kind}
use Rattle.geo_model.specs.TheConstants.{MAX_RANK}
use Rattle.geo_model.specs.Topology.{with_configs, Topology, Provider, Consumer, geom_at, provider_at, consumer_at, providers_of, consumers_of, attached_to, add_geom, add_provider, add_consumer, remove_geom, remove_provider, remove_consumer, attach, set_error, set_size, set_withering, set_marks, set_config, note_started, detach}
use Rattle.geo_model.specs.Rank.{rank, reaches, Ranked, would_loop, attach_refusal, is_too_deep}
use Rattle.geo_model.specs.World.{Config}
use Rattle.geo_model.specs.GeomCommands.{with_geom_at, rank_over}
use Rattle.geo_model.specs.Sound.{IsOfItsClass, RanksHold}
use Rattle.geo_laws_graph.specs.Edges.{Loop}
use Rattle.geo_laws_graph.specs.Attach.{CanAttach, IsAttached}
use Rattle.geo_model.specs.Graph.{OfferersLive, GeomsLive, IsInOrder}
use Rattle.geo_laws_graph.specs.RankLaws.{RanksStay, AllRanksStay, RanksRise}

-- what has no part in the edges keeps all ranks
pub record PlainChangesKeepRanks (C : Type 0) : Type 0 where
  pub error : (t : Topology C) (p : ℕ) → AllRanksStay t (set_error t p)
  pub size : (t : Topology C) (p size : ℕ) → AllRanksStay t (set_size t p size)
  pub withering : (t : Topology C) (g : ℕ) → AllRanksStay t (set_withering t g)
  pub marks : (t : Topology C) (test : Consumer → Bool) (mark : Bool) → AllRanksStay t (set_marks t test mark)
  pub config : (t : Topology C) (g : ℕ) (config : C) → AllRanksStay t (set_config t g config)
  pub started : (t : Topology C) (g : ℕ) → AllRanksStay t (note_started t g)

-- nor do configurations count, of one geom or of all
abbrev pub ConfigsKeepRanks : Type 0 → Type 0 → Type 0
ConfigsKeepRanks C D = (see : C → D) (t : Topology C) → AllRanksStay t (with_configs see t)

-- what comes with no edge keeps them too
pub record AddingKeepsRanks (C : Type 0) : Type 0 where
  pub geom : (t : Topology C) (kind : Kind) (name : List ℕ) (config : C) (automatic : Bool) → Ranked t → GeomsLive t
      → RanksStay t (add_geom t kind name config automatic)
  pub provider : (t : Topology C) (geom : ℕ) (name : List ℕ) (size sector : ℕ) → Ranked t → GeomsLive t
      → RanksStay t (add_provider t geom name size sector)
  pub consumer : (t : Topology C) (geom : ℕ) → Ranked t → GeomsLive t → IsSome (geom_at t geom)
      → RanksStay t (add_consumer t geom None)

-- and what goes with none
pub record RemovingKeepsRanks (C : Type 0) : Type 0 where
  pub geom : (t : Topology C) (g : ℕ) → Ranked t → GeomsLive t → consumers_of t g ≡ [] → RanksStay t (remove_geom t g)
  pub provider : (t : Topology C) (p : ℕ) → Ranked t → GeomsLive t → attached_to t p ≡ []
      → RanksStay t (remove_provider t p)
  pub consumer : (t : Topology C) (c : ℕ) (x : Consumer) → Ranked t → GeomsLive t → IsInOrder t
      → consumer_at t c ≡ Some x → x.provider ≡ None → RanksStay t (remove_consumer t c)

-- an attach that makes no loop
abbrev pub AttachRaisesRanks : Type 0 → Type 0
AttachRaisesRanks C =
    (t : Topology C) (c p : ℕ) (can : CanAttach t c p) → Ranked t → GeomsLive t → IsInOrder t
    → reaches t can.provider.geom can.consumer.geom ≡ false
    → RanksRise t (attach t c p) can.consumer.geom can.provider.geom

-- a new consumer, attached to a provider from which its geom isn't reached
abbrev pub OpeningRaisesRanks : Type 0 → Type 0
OpeningRaisesRanks C =
    (t : Topology C) (geom p : ℕ) (x : Provider) → Ranked t → GeomsLive t → IsSome (geom_at t geom)
    → provider_at t p ≡ Some x
    → reaches t x.geom geom ≡ false → RanksRise t (add_consumer t geom (Some p)) geom x.geom

-- no rank changes but that of one geom
pub record OneRankRises {C : Type 0} (t u : Topology C) (geom : ℕ) : Type 0 where
  pub ranked : Ranked u
  pub same : (g : ℕ) → g ≢ geom → rank u g ≡ rank t g

-- a new consumer of a geom without providers, as that of a handle or of the taste: only that geom's rank can rise
abbrev pub OpensKeepOtherRanks : Type 0 → Type 0
OpensKeepOtherRanks C =
    (t : Topology C) (geom p : ℕ) (x : Provider) → Ranked t → GeomsLive t → IsSome (geom_at t geom)
    → providers_of t geom ≡ []
    → provider_at t p ≡ Some x
    → OneRankRises t (add_consumer t geom (Some p)) geom
    × (rank (add_consumer t geom (Some p)) geom ≡ max (rank t geom) (1 + rank t x.geom))

-- a new geom over some providers has the rank over them, and no other rank changes
abbrev pub MadeGeomsAreRanked : Type 0
MadeGeomsAreRanked =
    (t : Topology Config) (kind : Kind) (name : List ℕ) (config : Config) (ps : List Provider)
    → Ranked t → GeomsLive t → OfferersLive t → IsInOrder t → All (λ p. provider_at t p.number ≡ Some p) ps
    → OneRankRises t (with_geom_at t kind name config ps) t.next_geom
    × (rank (with_geom_at t kind name config ps) t.next_geom ≡ rank_over t ps)

-- a detach, and the removal of an attached consumer: the graph before has one edge more
abbrev pub DetachLowersRanks : Type 0 → Type 0
DetachLowersRanks C =
    (t : Topology C) (c : ℕ) (at : IsAttached t c) → Ranked t → GeomsLive t → IsInOrder t
    → Ranked (detach t c) × RanksRise (detach t c) t at.consumer.geom at.provider.geom

-- so for the removal
abbrev pub RemovalLowersRanks : Type 0 → Type 0
RemovalLowersRanks C =
    (t : Topology C) (c : ℕ) (at : IsAttached t c) → Ranked t → GeomsLive t → IsInOrder t
    → Ranked (remove_consumer t c) × RanksRise (remove_consumer t c) t at.consumer.geom at.provider.geom

-- What an attach answers (g_attach(9))

-- an attach is refused as a loop exactly where the graph with it has no ranks
abbrev pub LoopsAreRefused : Type 0 → Type 0
LoopsAreRefused C =
    (t : Topology C) (c p : ℕ) → CanAttach t c p → Ranked t → GeomsLive t → IsInOrder t
    → (would_loop t (consumer_at t c) (provider_at t p) ≡ false) ↔ Ranked (attach t c p)

-- that is, exactly where the consumer's geom would reach itself
abbrev pub LoopsAreWaysBack : Type 0 → Type 0
LoopsAreWaysBack C =
    (t : Topology C) (c p : ℕ) (can : CanAttach t c p) → Ranked t → GeomsLive t → IsInOrder t
    → (would_loop t (consumer_at t c) (provider_at t p) ≡ true) ↔ Loop (attach t c p) can.consumer.geom

-- an attach that isn't refused leaves the graph ranked and within the depth
abbrev pub AttachesAreRanked : Type 0 → Type 0
AttachesAreRanked C =
    (t : Topology C) (c p : ℕ) (can : CanAttach t c p) → Ranked t → GeomsLive t → IsInOrder t
    → attach_refusal t c p ≡ None
    → RanksRise t (attach t c p) can.consumer.geom can.provider.geom × (is_too_deep (attach t c p) ≡ false)

-- What a sound world's ranks keep

-- a geom other than DEV and TASTE
abbrev pub IsOther : ℕ → Type 0
IsOther g = (g ≢ 1) × (g ≢ 2)

-- the changes of one thing that keep the ranks of a sound world
pub record SoundRanksStay : Type 0 where
  pub opened : (t : Topology Config) (geom p : ℕ) (x : Provider) → (geom ≡ 1) ⊎ (geom ≡ 2) → RanksHold t → GeomsLive t
      → provider_at t p ≡ Some x → RanksHold (add_consumer t geom (Some p))
  pub consumer_removed : (t : Topology Config) (c : ℕ) → RanksHold t → GeomsLive t → RanksHold (remove_consumer t c)
  pub provider_added : (t : Topology Config) (geom : ℕ) (name : List ℕ) (size sector : ℕ) → IsOther geom
      → RanksHold t → GeomsLive t
      → RanksHold (add_provider t geom name size sector)
  pub provider_removed : (t : Topology Config) (p : ℕ) → RanksHold t → GeomsLive t → attached_to t p ≡ []
      → RanksHold (remove_provider t p)
  pub geom_removed : (t : Topology Config) (g : ℕ) → IsOther g → RanksHold t → GeomsLive t → consumers_of t g ≡ []
      → RanksHold (remove_geom t g)
  pub errored : (t : Topology Config) (p : ℕ) → RanksHold t → RanksHold (set_error t p)
  pub sized : (t : Topology Config) (p size : ℕ) → RanksHold t → RanksHold (set_size t p size)
  pub withering : (t : Topology Config) (g : ℕ) → IsOther g → RanksHold t → RanksHold (set_withering t g)
  pub marked : (t : Topology Config) (test : Consumer → Bool) (mark : Bool) → RanksHold t
      → RanksHold (set_marks t test mark)
  pub geom_added : (t : Topology Config) (kind : Kind) (name : List ℕ) (config : Config) (automatic : Bool)
      → RanksHold t → GeomsLive t
      → IsInOrder t → RanksHold (add_geom t kind name config automatic)
  pub geom_made : (t : Topology Config) (kind : Kind) (name : List ℕ) (config : Config) (ps : List Provider)
      → RanksHold t → GeomsLive t
      → OfferersLive t → IsInOrder t → All (λ p. provider_at t p.number ≡ Some p) ps → rank_over t ps ≤ MAX_RANK
      → RanksHold (with_geom_at t kind name config ps)
  pub consumer_added : (t : Topology Config) (geom : ℕ) → RanksHold t → GeomsLive t → IsSome (geom_at t geom)
      → RanksHold (add_consumer t geom None)
  pub attached : (t : Topology Config) (c p : ℕ) → CanAttach t c p → RanksHold t → GeomsLive t → IsInOrder t
      → All IsOfItsClass t.geoms
      → attach_refusal t c p ≡ None → RanksHold (attach t c p)
  pub configured : (t : Topology Config) (g : ℕ) (config : Config) → RanksHold t → RanksHold (set_config t g config)
  pub started : (t : Topology Config) (g : ℕ) → RanksHold t → RanksHold (note_started t g)
