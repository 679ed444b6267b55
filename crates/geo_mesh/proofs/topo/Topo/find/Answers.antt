use Rattle.std.proofs.Common.{refl, rules}
use Rattle.geo_mesh.proofs.GraphLemmas.{sound-graph}
use Rattle.geo_mesh.proofs.ViewLemmas.{find-names}
use Rattle.geo_mesh.proofs.topo.Topo.find.Goals as goal

-- the names keep the one provider of the name without an error, which is what the model finds
pub returns-in-Some-clause-found : goal.returns-in-Some-clause-found
returns-in-Some-clause-found g c =
    rw (
      ← c.self.view_is,
      c.new.ensures,
      find-names c.self.inside.tables c.self.inside.tables.names c.self.invariant.tables.names_are
          c.args.name.now,
      ← c.in-Some.ensures,
    ) refl

-- no provider of the name is without an error, so the model takes the youngest of the name, as the names do
pub returns-in-None-clause-found : goal.returns-in-None-clause-found
returns-in-None-clause-found g c =
    rw (
      ← c.self.view_is,
      find-names c.self.inside.tables c.self.inside.tables.names c.self.invariant.tables.names_are
          c.args.name.now,
      ← c.in-None.ensures,
      ← c.newest.ensures,
    ) (search rules)

pub returns-in-Some-clause-sound : goal.returns-in-Some-clause-sound
returns-in-Some-clause-sound g c = rw (← c.self.view_is) (sound-graph c.self.inside.tables c.self.invariant)

pub returns-in-None-clause-sound : goal.returns-in-None-clause-sound
returns-in-None-clause-sound g c = rw (← c.self.view_is) (sound-graph c.self.inside.tables c.self.invariant)
