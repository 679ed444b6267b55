-- One consumer number is used up, by an open or an append that is refused: a firm world stays firm.
use Rattle.std.specs.Prelude.{◌≢◌, ℕ, ◌+◌, ◌<◌, ◌≤◌, map}
use Rattle.std.proofs.Common.{refl, arith}
use Rattle.std.proofs.lemmas.List.Elements.{All-weaker}
use Rattle.geo_base.specs.declared.limits.TheConstants.{MAX_RANK}
use Rattle.geo_model.specs.Topology.{Topology, Geom}
use Rattle.geo_model.specs.Rank.{rank}
use Rattle.geo_model.specs.World.{World, Config, granted_in}
use Rattle.geo_model.specs.Sound.{RanksHold, StandsBare}
use Rattle.geo_model.specs.HandleCommands.{without_number}
use Rattle.geo_model.specs.Fitting.{Firm}
use Rattle.geo_laws_graph.specs.RankLaws.{AllRanksStay}
use Rattle.geo_laws_graph.proofs.EdgeRanks.{stays_all}
use Rattle.geo_laws_graph.proofs.KeptEdges.{parts-edges}
use Rattle.geo_laws_counts.proofs.SeenCounts.{seen_stays}
use Rattle.geo_laws_life.specs.LessLaws.{IsLess}
use Rattle.geo_laws_life.proofs.Less.{less-self, same_tasting}
use Rattle.geo_laws_life.proofs.LessFitting.{less-firm}

module _ (w : World) (firm : Firm w) where
  -- the graph before
  abbrev t : Topology Config
  t = w.topology

  -- and the graph with one consumer number used up
  abbrev u : Topology Config
  u = record t { next_consumer = t.next_consumer + 1 }

  -- ranks stay
  ranks_stay : AllRanksStay t u
  ranks_stay = stays_all t u refl (parts-edges t u refl refl) (parts-edges u t refl refl) (λ live. live)

  -- a geom that stands bare still does
  bare : (g : ℕ) → StandsBare t g → StandsBare u g
  bare g is = record { stands = is.stands; no_provider = is.no_provider }

  -- so ranks hold
  ranks_hold : RanksHold u
  ranks_hold = record {
    ranked = ranks_stay.ranked firm.graph.ranks.ranked;
    not_deep = All-weaker (λ (x : Geom Config). x.number ≢ 1 → x.number ≢ 2 → rank t x.number ≤ MAX_RANK)
        (λ (x : Geom Config). x.number ≢ 1 → x.number ≢ 2 → rank u x.number ≤ MAX_RANK)
        (λ x so apart other. let low = so apart other in let same = ranks_stay.same x.number in omega arith)
        t.geoms firm.graph.ranks.not_deep;
    dev = bare 1 firm.graph.ranks.dev;
    taste = bare 2 firm.graph.ranks.taste;
  }

  -- the graph has come to less by nothing
  less : IsLess w t
  less = less-self w firm

  -- so has the graph with the number used up
  less_by_number : IsLess w u
  less_by_number = record {
    order = record {
      geoms = less.order.geoms;
      providers = less.order.providers;
      consumers = (
        less.order.consumers.0,
        All-weaker (λ (n : ℕ). n < t.next_consumer) (λ (n : ℕ). n < t.next_consumer + 1) (λ n low. omega arith)
            (map (λ x. x.number) t.consumers) less.order.consumers.1,
      );
    };
    ranks = ranks_hold;
    lower = λ g. let same = ranks_stay.same g in omega arith;
    demand = seen_stays (granted_in w) t u refl;
    live = record { offerers = less.live.offerers; geoms = less.live.geoms; providers = less.live.providers };
    geoms = less.geoms;
    providers = less.providers;
    consumers = less.consumers;
    fewer = less.fewer;
    stay = less.stay;
    tasting = same_tasting t u refl w.taste firm.handles.taste;
  }

  -- so the world is firm
  pub number_firm : Firm (without_number w)
  number_firm =
      less-firm w u firm less_by_number w.events firm.graph.providers.withering firm.graph.unmarked
      firm.taste.living
