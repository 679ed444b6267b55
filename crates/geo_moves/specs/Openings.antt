-- The opening, disk by disk.
use Rattle.std.specs.Prelude.{◌≡◌, ℕ, not, List, [], take, fold, filter, zip}
use Rattle.std.specs.List.{enumerate_from}
use Rattle.geo_model.specs.declared.command.DiskDecl.{DiskDecl}
use Rattle.geo_model.specs.declared.step.Entry.{Entry}
use Rattle.geo_model.specs.World.{World, Plan}
use Rattle.geo_model.specs.GeomCommands.{stand}
use Rattle.geo_model.specs.Opening.{bare_world, disk_in_size}
use Rattle.geo_model.specs.Fitting.{Firm}
use Rattle.geo_state.specs.declared.state.State.{State}
use Rattle.geo_state.specs.World.{world}
use Rattle.geo_state.specs.Holds.{Holds}

-- a disk of the header in the size that it has, with its number, stands
abbrev pub stand_one : World → ℕ × (DiskDecl × (ℕ × ℕ)) → World
stand_one w item = stand w (item.0, disk_in_size item.1)

-- the world in which the first so many disks stand, but for those that are inserted later
abbrev pub stood : Plan → List (ℕ × ℕ) → ℕ → World
stood plan facts count =
    fold stand_one (bare_world plan facts)
    (filter (λ item. not item.1.0.later) (take count (enumerate_from 0 (zip plan.disks facts))))

-- the state stands for the world, whatever the log has; no request is on its way; all that is kept is kept
pub record IsOpened (w : World) (s : State) : Type 0 where
  pub world : (log : List Entry) → world w.actors log s ≡ w
  pub bios : s.traffic.bios ≡ []
  pub holds : Holds s
  pub firm : Firm w
