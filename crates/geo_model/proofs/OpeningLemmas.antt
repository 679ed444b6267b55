-- What an opened world has.
use Rattle.std.specs.Prelude.{◌≡◌, ℕ, not, List, [], ◌∷◌, filter, fold, zip}
use Rattle.std.specs.List.{enumerate_from}
use Rattle.std.proofs.Common.{refl}
use Rattle.geo_model.specs.declared.command.DiskDecl.{DiskDecl}
use Rattle.geo_model.specs.World.{Plan, World}
use Rattle.geo_model.specs.GeomCommands.{stand}
use Rattle.geo_model.specs.Log.{owed}
use Rattle.geo_model.specs.Opening.{bare_world, disk_in_size, opening}

-- disks that stand owe nothing
pub stands_owe : (items : List (ℕ × (DiskDecl × (ℕ × ℕ)))) (w : World)
    → owed (fold (λ w item. stand w (item.0, disk_in_size item.1)) w items) ≡ owed w
stands_owe [] w = refl
stands_owe (item ∷ items) w = stands_owe items (stand w (item.0, disk_in_size item.1))

-- nor does an opened world
pub opening_owes : (plan : Plan) (facts : List (ℕ × ℕ)) → owed (opening plan facts) ≡ 0
unfolding opening
opening_owes plan facts =
    stands_owe (filter (λ item. not item.1.0.later) (enumerate_from 0 (zip plan.disks facts)))
    (bare_world plan facts)
