-- The mesh as it is printed after what a pass has seen of the log.
use Rattle.std.specs.Prelude.{List, []}
use Rattle.std.specs.Option.{option_map_or}
use Rattle.geo_model.specs.declared.listing.GeomLine.{GeomLine}
use Rattle.geo_model.specs.declared.step.Entry.{Entry}
use Rattle.geo_model.specs.Listing.{listing}
use Rattle.geo_model.specs.Log.{replay}
use Rattle.geo_jobs.specs.Passes.{MeshPass, opened_by}

-- the listing of the world after these entries, in the yard of the pass
unfoldable pub listing_after : MeshPass → List Entry → List GeomLine
listing_after p log = option_map_or (λ start. listing (replay (opened_by start) log)) p.start []

-- the same after what the pass has seen
abbrev pub listing_seen : MeshPass → List GeomLine
listing_seen p = listing_after p p.seen
