use Rattle.geo_mesh.proofs.GraphLemmas.{sound-graph}
use Rattle.geo_mesh.proofs.topo.Topo.coming_provider.Goals as goal

pub returns-clause-sound : goal.returns-clause-sound
returns-clause-sound g c = rw (← c.self.view_is) (sound-graph c.self.inside.tables c.self.invariant)
