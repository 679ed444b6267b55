-- The consumer of a taste in a firm mesh holds what the taste was granted.
use Rattle.std.specs.Prelude.{◌≡◌, find, Option, Some, None}
use Rattle.std.specs.Option.{option_map_or}
use Rattle.std.proofs.Common.{inr, refl, sym, ◌∙◌, ap, subst, arith}
use Rattle.geo_model.specs.Words.{names_number}
use Rattle.geo_model.specs.Topology.{Topology, Consumer, consumer_at}
use Rattle.geo_model.specs.World.{World, Config, Handle, Taste, granted_in, taste_grant}
use Rattle.geo_model.specs.Graph.{IsInOrder}
use Rattle.geo_model.specs.Fitting.{Firm}
use Rattle.geo_laws_graph.proofs.Living.{sound-order}
use Rattle.geo_laws_counts.specs.CountWords.{HoldsGrants, IsOnlyOne}
use Rattle.geo_laws_counts.proofs.Numbers.{number_is_only}
use Rattle.geo_laws_life.proofs.Found.{one-found}
use Rattle.geo_laws_life.proofs.Bare.{holds_grants, none_holds}
pub use Rattle.geo_laws_life.proofs.Bare.{tasting, taster, taster_here, taster_geom, taster_found}

module _ (w : World) (firm : Firm w) where
  -- the graph
  abbrev t : Topology Config
  t = w.topology

  -- it stands in order
  pub order : IsInOrder t
  order = sound-order w firm.graph.numbers

  module _ (s : Taste) (is : w.taste ≡ Some s) where
    -- the taste's consumer
    abbrev it : Consumer
    it = taster w firm s is

    -- no other consumer has its number
    pub taster_only : IsOnlyOne t it
    taster_only = number_is_only t order.consumers.0 it (taster_here w firm s is)

    -- it holds its grant
    pub taster_holds : HoldsGrants t it.geom
    taster_holds = subst (HoldsGrants t) (sym (taster_geom w firm s is)) (holds_grants w firm 2 (inr refl))

    -- no handle has it
    pub none_has : find (λ (h : Handle). names_number h.consumer it.number) w.handles ≡ None
    none_has =
        none_holds w firm it.number (λ c e one.
        let same : it ≡ c = one-found (consumer_at t it.number) it c (taster_found w firm s is) e in
        let both : 2 ≡ 1 = sym (taster_geom w firm s is) ∙ ap (λ (x : Consumer). x.geom) same ∙ one in
        omega (arith, both))

    -- it is granted what the taste is
    pub taster_grant : granted_in w it.number ≡ taste_grant (Some s) it.number
    taster_grant =
        ap (λ (o : Option Handle). option_map_or (λ (h : Handle). h.grant) o (taste_grant w.taste it.number)) none_has
        ∙ ap (λ (o : Option Taste). taste_grant o it.number) is
