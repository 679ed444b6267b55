-- What an append that isn't refused keeps of ranks and counts.
use Rattle.std.specs.Prelude.{◌≡◌, ℕ, ◌+◌, Bool, true, false, ◌∷◌, [], length, Some, None}
use Rattle.std.proofs.Common.{refl, sym, ◌∙◌, subst}
use Rattle.std.proofs.lemmas.Bool.{false_from_ne_true}
use Rattle.geo_model.proofs.Options.{some-there}
use Rattle.geo_model.specs.Errno.TheVariants.{ENXIO, ELOOP, EDEEP}
use Rattle.geo_model.specs.Words.{first_error}
use Rattle.geo_model.specs.Topology.{Topology, Provider, geom_at, provider_at, consumer_at, is_errored, add_consumer, attach, set_config}
use Rattle.geo_model.specs.Rank.{would_loop, is_too_deep, attach_refusal}
use Rattle.geo_model.specs.Opens.{below, has_error_below}
use Rattle.geo_model.specs.Demand.{is_exclusive, fits_limit}
use Rattle.geo_model.specs.World.{World, Config, granted_in}
use Rattle.geo_model.specs.Acceptance.{add_place}
use Rattle.geo_model.specs.Append.{Growing, component_refusal}
use Rattle.geo_model.specs.Sound.{Sound, RanksHold}
use Rattle.geo_model.specs.Steady.{Steady}
use Rattle.geo_model.specs.Graph.{GeomsLive}
use Rattle.geo_laws_graph.proofs.Found.{added-consumer}
use Rattle.geo_laws_graph.proofs.Living.{sound-order, steady-parts, add_consumer-geoms}
use Rattle.geo_laws_graph.proofs.Numbered.{any-contained}
use Rattle.geo_laws_graph.proofs.TwoChanges.{two-changes}
use Rattle.geo_laws_graph.specs.Attach.{CanAttach}
use Rattle.geo_laws_graph.proofs.RankChanges.{adding-stay}
use Rattle.geo_laws_graph.proofs.Holding.{sound-ranks}
use Rattle.geo_laws_counts.proofs.Reach.{below_self}
use Rattle.geo_laws_growth.specs.JoinLaws.{Joins, IsJoined}
use Rattle.geo_laws_growth.specs.GrowthLaws.{IsFoundGrowing, AppendsHold, grown}
use Rattle.geo_laws_growth.proofs.Joining.{joins_without_loop}
use Rattle.geo_laws_growth.proofs.JoiningAllowed.{joins_are_allowed}
use Rattle.geo_laws_growth.proofs.Grown.{growth_is_not_seen}

-- an attach isn't refused where there is no error, no loop and nothing too deep
not_refused : (a b c : Bool) → a ≡ false → b ≡ false → c ≡ false
    → first_error ((a, ENXIO) ∷ (b, ELOOP) ∷ (c, EDEEP) ∷ []) ≡ None
not_refused a b c ea eb ec = rw (ea, eb, ec) refl

module _ (w : World) (x : Growing) (q : Provider) where
  -- the graph with the new consumer, not yet attached
  abbrev t : Topology Config
  t = add_consumer w.topology x.geom.number None

  -- its number
  abbrev c : ℕ
  c = w.topology.next_consumer

  module _ (sound : Sound w) (none : component_refusal w x q ≡ None) where
    -- what isn't against it
    allowed : IsJoined (granted_in w) t c q.number
    allowed = (joins_are_allowed.refusal (granted_in w) t c q.number).0 none

    -- once it is attached it is as if it were made so
    made : attach t c q.number ≡ add_consumer w.topology x.geom.number (Some q.number)
    made = two-changes.made w.topology x.geom.number q.number (sound-order w sound.numbers)

    -- none stands in another's way
    append_exclusive : is_exclusive (granted_in w) (grown w x q) ≡ true
    append_exclusive =
        (growth_is_not_seen.counts w x q (granted_in w)).exclusive
        (subst (λ u. is_exclusive (granted_in w) u ≡ true) made allowed.exclusive)

    -- and no count is above the limit
    append_limit : fits_limit (granted_in w) (grown w x q) ≡ true
    append_limit =
        (growth_is_not_seen.counts w x q (granted_in w)).limit
        (subst (λ u. fits_limit (granted_in w) u ≡ true) made allowed.limit)

    module _ (steady : Steady w) (found : IsFoundGrowing w.topology x)
        (there : provider_at w.topology q.number ≡ Some q) where
      -- the geoms of consumers live
      geoms_live : GeomsLive w.topology
      geoms_live = (steady-parts w.topology steady.parts steady.attached).geoms

      -- and so with the new one
      geoms_live_too : GeomsLive t
      geoms_live_too = add_consumer-geoms w.topology x.geom.number None
          (some-there (geom_at w.topology x.geom.number) x.geom found.geom) geoms_live

      -- the new consumer can be attached
      can : CanAttach t c q.number
      can = record {
        consumer = record { number = c; geom = x.geom.number; provider = None; spoiled = false };
        stands = added-consumer.new w.topology x.geom.number None (sound-order w sound.numbers);
        free = refl;
        provider = q;
        offers = there;
      }

      -- and joins
      append_joins : Joins t c q.number
      append_joins =
          joins_without_loop t c q.number can
          (adding-stay.consumer w.topology x.geom.number sound.ranks.ranked geoms_live
          (some-there (geom_at w.topology x.geom.number) x.geom found.geom)).ranked
          geoms_live_too (added-consumer.order w.topology x.geom.number None (sound-order w sound.numbers)) allowed.loop

      -- the provider itself carries no error
      no_own_error : is_errored t q.number ≡ false
      no_own_error =
          false_from_ne_true (is_errored t q.number)
          (λ bad.
          let some : has_error_below t q.number ≡ true =
          any-contained (is_errored t) (below t q.number) q.number (below_self (length t.geoms) t q.number) bad in
          let no_way : true ≡ false = sym some ∙ allowed.errors in
          cc)

      -- so an attach isn't refused
      attach_allowed : attach_refusal t c q.number ≡ None
      attach_allowed =
          not_refused (is_errored t q.number) (would_loop t (consumer_at t c) (provider_at t q.number))
          (is_too_deep (attach t c q.number))
          no_own_error allowed.loop allowed.depth

      -- and the ranks hold
      append_ranks : RanksHold (grown w x q)
      append_ranks =
          let joined : Topology Config = add_consumer w.topology x.geom.number (Some q.number) in
          let place : Config = add_place x.geom.config c q.size in
          let before : RanksHold t =
          sound-ranks.consumer_added w.topology x.geom.number sound.ranks geoms_live
          (some-there (geom_at w.topology x.geom.number) x.geom found.geom) in
          let after : RanksHold (attach t c q.number) =
          sound-ranks.attached t c q.number can before geoms_live_too
          (added-consumer.order w.topology x.geom.number None (sound-order w sound.numbers)) sound.numbers.classes
          attach_allowed in
          sound-ranks.sized (set_config joined x.geom.number place) x.provider.number (x.provider.size + q.size)
          (sound-ranks.configured joined x.geom.number place (subst RanksHold made after))

-- an append that isn't refused keeps ranks and counts
pub appends_hold : AppendsHold
appends_hold = record {
  joins = λ w x q sound steady found there none. append_joins w x q sound none steady found there;
  ranks = λ w x q sound steady found there none. append_ranks w x q sound none steady found there;
  exclusive = λ w x q sound none. append_exclusive w x q sound none;
  limit = λ w x q sound none. append_limit w x q sound none;
}
