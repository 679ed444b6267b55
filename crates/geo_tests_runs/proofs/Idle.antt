-- A mesh that has just opened.
use Rattle.std.proofs.Common.{◌≡◌, ℕ, List, [], ◌∷◌, fold, filter, zip, not, All, false, refl, sym, subst}
use Rattle.std.specs.List.{enumerate_from}
use Rattle.std.proofs.lemmas.List.Elements.{All-from_recursion}
use Rattle.geo_model.specs.declared.command.DiskDecl.{DiskDecl}
use Rattle.geo_model.specs.declared.step.Entry.{Entry}
use Rattle.geo_model.specs.GeomCommands.{stand}
use Rattle.geo_model.specs.World.{Bio, World, Plan, is_busy}
use Rattle.geo_model.specs.Laws.{NoneBusy}
use Rattle.geo_model.specs.Log.{replay}
use Rattle.geo_model.specs.Opening.{bare_world, disk_in_size, opening}
use Rattle.geo_drain.specs.Meshes.{MeshView, opened, world_of}

-- disks that stand bring no bio and no handle
stands_bios : (w : World) (items : List (ℕ × (DiskDecl × (ℕ × ℕ))))
    → (fold (λ (v : World) (item : ℕ × (DiskDecl × (ℕ × ℕ))). stand v (item.0, disk_in_size item.1)) w items).bios
    ≡ w.bios
stands_bios w [] = refl
stands_bios w (x ∷ xs) = stands_bios (stand w (x.0, disk_in_size x.1)) xs

opening_bios : (plan : Plan) (facts : List (ℕ × ℕ)) → (opening plan facts).bios ≡ []
unfolding opening
opening_bios plan facts =
    stands_bios (bare_world plan facts)
    (filter (λ item. not item.1.0.later) (enumerate_from 0 (zip plan.disks facts)))

-- no bio is Busy
pub idle_mesh : (m : MeshView) → m.log ≡ [] → NoneBusy (world_of m)
idle_mesh m none =
    subst (λ (log : List Entry). NoneBusy (replay (opened m) log)) (sym none)
    (subst (λ (bios : List Bio). All (λ (x : Bio). is_busy x.phase ≡ false) bios) (sym (opening_bios m.plan m.facts))
    (All-from_recursion (λ (x : Bio). is_busy x.phase ≡ false) [] tt))
