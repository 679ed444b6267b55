-- Passes of a yard that holds a mesh.
use Rattle.std.specs.Prelude.{◌≡◌, List, ◌++◌}
use mathlib.Core.List.{IsPrefix}
use Rattle.geo_model.specs.declared.step.Entry.{Entry}
use Rattle.geo_model.specs.World.{World}
use Rattle.geo_model.specs.Opening.{opening}
use Rattle.geo_lock.specs.Pass.{IsGood, IsSamePass, PassView}
use Rattle.geo_core.specs.declared.logged.MeshStart.{MeshStart}
use Rattle.geo_core.specs.Mesh.{IsHistory}
use Rattle.geo_core.specs.Logged.{mesh_of}

-- a pass of a yard that holds a mesh
abbrev pub MeshPass : Type 0
MeshPass = PassView MeshStart Entry

-- the world with which a mesh began
abbrev pub opened_by : MeshStart → World
opened_by s = opening s.plan s.facts

-- the own entries of the pass are those of its number in what it has seen, and that is a history of the mesh
abbrev pub IsGoodPass : MeshPass → Type 0
IsGoodPass p = IsGood (λ s log. IsHistory (mesh_of s log)) (λ e. e.seat) p

-- the pass went on, by these entries of its own
pub record Goes (p q : MeshPass) (added : List Entry) : Type 0 where
  pub same : IsSamePass p q
  pub longer : IsPrefix p.seen q.seen
  pub own : q.own ≡ p.own ++ added
