-- The lines of the geoms so far were added.
use Rattle.std.proofs.Common.{◌≡◌, ◌++◌, take, flat_map}
use Rattle.geo_report.specs.MeshTexts.{geom_lines}
use Rattle.geo_report.proofs.mesh.add_geoms.Given as goal

abbrev pub invariant-loop-geom : goal.invariant-loop-geom
invariant-loop-geom l = l.text ≡ l.fn.text ++ flat_map geom_lines (take l.geom-index l.geoms)
