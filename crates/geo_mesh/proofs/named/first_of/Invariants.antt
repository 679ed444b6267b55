use Rattle.std.proofs.Common.{◌≡◌, ◌-◌}
use Rattle.geo_mesh.proofs.NamedLemmas.{first_number}
use Rattle.geo_mesh.proofs.named.first_of.Given as goal

-- none from `from` on and before `at` is of the class and the name
abbrev pub invariant-loop-geom : goal.invariant-loop-geom
invariant-loop-geom g l = record {
  same : first_number l.kind l.name l.geoms.rows l.from ≡ first_number l.kind l.name l.geoms.rows l.at;
}

abbrev pub decreases-loop-geom : goal.decreases-loop-geom
decreases-loop-geom g l = l.geoms.next - l.at
