-- The list that a watcher holds is that of what it has seen.
use Rattle.std.proofs.Common.{◌≡◌, List, [], Option, Some, sym, ap, ◌∙◌}
use Rattle.std.specs.Option.{option_map_or}
use Rattle.geo_model.specs.declared.step.Entry.{Entry}
use Rattle.geo_model.specs.Listing.{listing}
use Rattle.geo_model.specs.Log.{replay}
use Rattle.geo_jobs.specs.Passes.{MeshPass, opened_by}
use Rattle.geo_jobs.specs.Listings.{listing_after, listing_seen}
use Rattle.geo_jobs.specs.Views.{AreOnePass}

-- one pass, at two moments, has one world after the same entries
listed_after : (o p : MeshPass) → AreOnePass o p → (log : List Entry) → listing_after p log ≡ listing_after o log
unfolding listing_after
listed_after o p one log =
    ap (λ start. option_map_or (λ begun. listing (replay (opened_by begun) log)) start []) one.start

-- what the pass showed is the mesh after what was seen
pub listed : (of : Option MeshPass) (seen : List Entry) (o p : MeshPass) → of ≡ Some o → AreOnePass o p → p.seen ≡ seen
    → listing_seen p ≡ option_map_or (λ q. listing_after q seen) of []
listed of seen o p of_is one seen_is = ap (λ (log : List Entry). listing_after p log) seen_is
    ∙ (listed_after o p one seen
    ∙ ap (λ (z : Option MeshPass). option_map_or (λ q. listing_after q seen) z []) (sym of_is))
