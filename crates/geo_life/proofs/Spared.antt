-- What a sound and steady world tells of DEV and its consumers.
use Rattle.std.specs.Prelude.{◌==◌}
use Rattle.std.proofs.Common.{rules}
use Rattle.geo_model.specs.Topology.{Geom}
use Rattle.geo_model.specs.World.{World, Config}
use Rattle.geo_model.specs.Sound.{Sound}
use Rattle.geo_model.specs.Steady.{Steady}
use Rattle.geo_laws_graph.proofs.Numbered.{number_found}
use Rattle.geo_base.proofs.FindLists.{find-Contains}
use Rattle.geo_life.specs.Life.{IsDevMade}
use Rattle.geo_life.specs.LifeLaws.{HandlesAreSpared}

-- DEV stands, and was made by hand
dev_made : (w : World) → Sound w → Steady w → IsDevMade w.topology
dev_made w sound steady =
    search (
      rules,
      find-Contains (λ (g : Geom Config). g.number == 1) w.topology.geoms,
      number_found (λ (g : Geom Config). g.number) w.topology.geoms 1,
    )

pub handles_are_spared : HandlesAreSpared
handles_are_spared = search (rules, dev_made)
