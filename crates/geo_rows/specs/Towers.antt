-- A tower of concats, each over the one below it twice, so that each count doubles from one to the next.
use Rattle.std.specs.Prelude.{ℕ, zero, suc, ◌+◌, List, [], ◌∷◌, ◌++◌, Option, codes}
use Rattle.geo_base.specs.declared.request.Counts.{Counts}
use Rattle.geo_base.specs.declared.errno.Errno.{Errno}
use Rattle.geo_model.specs.declared.command.Command.TheVariants as commands
use Rattle.geo_model.specs.declared.command.LineCommand.{LineCommand}
use Rattle.geo_model.specs.Names.{concat_name}
use Rattle.geo_model.specs.Demand.{have}
use Rattle.geo_model.specs.Opens.{open_refusal, with_grant, with_opener}
use Rattle.geo_model.specs.World.{World, Plan, granted_in}
use Rattle.geo_rows.specs.Rows.{ram, command}
use Rattle.geo_rows.specs.StepLists.{world_after_plan}

-- the name of a concat of the tower
abbrev pub floor_name : ℕ → List ℕ
floor_name k = codes "c" ++ (48 + k) ∷ []

-- the provider under a concat of the tower
abbrev pub under_name : ℕ → List ℕ
under_name zero = codes "md0"
under_name (suc k) = concat_name (floor_name (suc k))

-- the commands that build so many floors, the lowest first
abbrev pub floors : ℕ → List LineCommand
floors zero = []
floors (suc k) =
    floors k ++ command (k + 3) 0 (commands.Concat (floor_name (suc k)) (under_name k ∷ under_name k ∷ [])) ∷ []

abbrev pub tower_plan : ℕ → Plan
tower_plan k = record { disks = ram (codes "md0") 4 ∷ []; actors = codes "a" ∷ []; commands = floors k }

abbrev pub tower_world : ℕ → World
tower_world k = world_after_plan (tower_plan k) ((512, 4) ∷ []) []

-- what refuses that the top is opened
abbrev pub top_refusal : ℕ → Counts → Option Errno
top_refusal k grant = open_refusal (granted_in (tower_world k)) (tower_world k).topology (under_name k) grant

-- the counts of the disk once the top is open; its provider has the number 1, and that of floor k has k + 1
abbrev pub disk_counts : ℕ → Counts → Counts
disk_counts k grant =
    let w : World = tower_world k in
    have (with_grant (granted_in w) w.topology.next_consumer grant) (with_opener w.topology (k + 1)) 1
