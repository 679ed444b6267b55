-- What holds where a class accepts a shape (geom(4)).
use Rattle.std.specs.Prelude.{◌≡◌, true, [], All, Option, IfSome, IsTrue, ⊤}
use Rattle.geo_model.specs.declared.class.Shape.{Shape}
use Rattle.geo_model.specs.declared.class.Shape.TheVariants.{Joined, Striped}
use Rattle.geo_model.specs.Topology.{Topology, Provider, providers_of}
use Rattle.geo_model.specs.World.{Config}
use Rattle.geo_model.specs.Events.{QueuedTopology}
use Rattle.geo_model.specs.Acceptance.{accept}
use Rattle.geo_model.specs.Sound.{IsOfItsClass}
use Rattle.geo_model.specs.Steady.{AreMade, has_free_place}
use Rattle.geo_mesh.specs.Topo.{is_provider_size}
use Rattle.geo_taste.specs.Making.{QueuedMesh}
use Rattle.geo_laws_texts.specs.RecordLaws.{IsPlace}

-- an assembly with a free place has no provider
abbrev pub AreWaiting : Topology Config → Type 0
AreWaiting t = All (λ g. IsTrue (has_free_place g) → providers_of t g.number ≡ []) t.geoms

-- the place that a record names is one of an assembly
abbrev pub NamesAPlace : Shape → Type 0
NamesAPlace (Joined found) = IsPlace found.place found.count
NamesAPlace (Striped found) = IsPlace found.place found.count
NamesAPlace _ = ⊤

-- each provider has the sizes of one
abbrev pub HaveSizes : Topology Config → Type 0
HaveSizes t = All (λ x. is_provider_size x.size x.sector ≡ true) t.providers

-- what is made, if anything is, has them
abbrev pub MakesSizes : Option QueuedMesh → Type 0
MakesSizes made = IfSome made (λ m. HaveSizes m.mesh.topology)

-- what holds of a sound, steady and fitting mesh in which a class accepts a shape: geoms are of their classes, the
-- first two aren't automatic, an assembly with a free place has no provider, and what is made has sizes of providers
pub record MayAccept (q : QueuedTopology Config) (p : Provider) (shape : Shape) : Type 0 where
  pub classes : All IsOfItsClass q.topology.geoms
  pub made : AreMade q.topology
  pub waiting : AreWaiting q.topology
  pub sizes : IfSome (accept q p shape) (λ made. HaveSizes made.topology)
