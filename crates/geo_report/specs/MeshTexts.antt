-- The lines of the mesh, in the parts in which they are written.
use Rattle.std.specs.Prelude.{ℕ, List, ◌++◌, flat_map, codes, decimal, if◌then◌else◌}
use Rattle.geo_base.specs.Kind.{kind_text}
use Rattle.geo_base.specs.declared.request.Counts.{Counts}
use Rattle.geo_model.specs.declared.listing.ConsLine.{ConsLine}
use Rattle.geo_model.specs.declared.listing.GeomLine.{GeomLine}
use Rattle.geo_model.specs.declared.listing.ProvLine.{ProvLine}

-- counts behind a blank
unfoldable pub counts_part : Counts → List ℕ
counts_part a = codes " r" ++ decimal a.r ++ codes "w" ++ decimal a.w ++ codes "e" ++ decimal a.e

-- a provider's sizes
unfoldable pub sizes_part : ProvLine → List ℕ
sizes_part p = codes " size " ++ decimal p.size ++ codes " sector " ++ decimal p.sector

abbrev pub error_part : ProvLine → List ℕ
error_part p = if p.errored then codes " ENXIO\n" else codes "\n"

-- a provider's counts, and whether it carries the error
unfoldable pub state_part : ProvLine → List ℕ
state_part p = counts_part p.counts ++ error_part p

unfoldable pub provider_line : ProvLine → List ℕ
provider_line p = codes "  provider " ++ p.name ++ sizes_part p ++ state_part p

unfoldable pub consumer_line : ConsLine → List ℕ
consumer_line c = codes "  consumer " ++ c.prov ++ counts_part c.counts ++ codes "\n"

abbrev pub wither_part : GeomLine → List ℕ
wither_part g = if g.withering then codes " withering\n" else codes "\n"

-- a geom's class and name
unfoldable pub name_part : GeomLine → List ℕ
name_part g = codes "geom " ++ kind_text g.kind ++ codes " " ++ g.name

-- a geom's own line
unfoldable pub head_part : GeomLine → List ℕ
head_part g = name_part g ++ codes " rank " ++ decimal g.rank ++ wither_part g

unfoldable pub geom_lines : GeomLine → List ℕ
geom_lines g = head_part g ++ flat_map provider_line g.providers ++ flat_map consumer_line g.consumers
