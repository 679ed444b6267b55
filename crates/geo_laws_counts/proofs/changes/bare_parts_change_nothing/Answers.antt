use Rattle.geo_laws_counts.proofs.Stays.{geom_went}
use Rattle.geo_laws_counts.proofs.changes.bare_parts_change_nothing.Goals as goal

pub returns-clause-gone_geom : goal.returns-clause-gone_geom
returns-clause-gone_geom g c = geom_went
