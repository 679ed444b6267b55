-- What an order has noted of a mesh.
use Rattle.std.specs.Prelude.{List}
use Rattle.geo_model.specs.declared.step.Entry.{Entry}
use Rattle.geo_model.specs.World.{World}
use Rattle.geo_model.specs.Log.{IsPrefixOf}
use Rattle.geo_core.specs.Mesh.{MeshView, opened}

-- it is right for all that the mesh did
abbrev pub KnowsAll : (World → List Entry → Type 0) → MeshView → Type 0
KnowsAll knows m = knows (opened m) m.log

-- it is right for what the mesh did up to some moment
abbrev pub KnowsPart : (World → List Entry → Type 0) → MeshView → Type 0
KnowsPart knows m = (seen : List Entry) × IsPrefixOf seen m.log × knows (opened m) seen
