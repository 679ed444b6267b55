-- What a mesh holds, and what holds of it.
use Rattle.std.specs.Prelude.{◌≡◌, ◌≤◌, ◌==◌, Bool, ◌&&◌, List, length, Option, is_none}
use Rattle.std.specs.List.{list_all}
use Rattle.geo_model.specs.World.{World}
use Rattle.geo_model.specs.Plans.{IsPlan, FactsFit}
use Rattle.geo_model.specs.Opening.{opening}
use Rattle.geo_model.specs.Log.{owed, IsLawful}
use Rattle.geo_state.specs.Holds.{Holds}
use Rattle.geo_state.specs.World.{world, HasBytes}
use Rattle.geo_core.specs.declared.running.Running.{Running}
use Rattle.geo_core.specs.Left.{left_of, AreNext}
use Rattle.geo_core.specs.Mesh.{MeshView, world_of}

-- what is seen of it
abbrev pub seen : Running → MeshView
seen r = record { plan = r.plan; facts = r.facts.items; log = r.log.items }

-- the world for which its parts stand
abbrev pub world_now : Running → World
world_now r = world (left_of r.plan.commands r.left) r.log.items r.state

-- no bio, event or taste is left
abbrev pub is_none_left : {A B C : Type 0} → List A → List B → Option C → Bool
is_none_left bios events taste = (length bios == 0) && ((length events == 0) && is_none taste)

-- nor a command
abbrev pub is_idle : World → Bool
is_idle w = is_none_left w.bios w.events w.taste && list_all (λ rest. length rest == 0) w.actors

-- the log is one that a mesh can have, the parts stand for the world to which it leads, what is kept beside them is
-- kept, and there is room for each entry that is owed
pub record IsMesh (r : Running) : Type 0 where
  pub plan : IsPlan r.plan
  pub facts : FactsFit r.plan r.facts.items
  pub lawful : IsLawful (opening r.plan r.facts.items) r.log.items
  pub left : AreNext r.plan r.left
  pub world : world_now r ≡ world_of (seen r)
  pub holds : Holds r.state
  pub bytes : HasBytes r.log.items r.state
  pub room : owed (world_now r) ≤ r.log.spare
