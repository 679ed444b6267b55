-- The disks of the plan were had, or not, and there was memory for the mesh, or not.
use Rattle.std.proofs.Common.{List, map, sym, subst, ap}
use Rattle.geo_model.specs.Plans.{FactsFit}
use Rattle.geo_run.specs.Drives.{drive_view, size_of}
use Rattle.geo_run.proofs.Opening.{plan_lost, plan_opened, plan_stops}
use Rattle.geo_run.proofs.Plans.{decls_all, drives_out, names_apart, sizes_fit}
use Rattle.geo_run.proofs.opened.open_plan.Goals as goal

pub take_disks-requires-clause-decls : goal.take_disks-requires-clause-decls
take_disks-requires-clause-decls g c = decls_all c.args.plan _ c.disks.ensures.plan c.disks.ensures.disks

pub take_disks-requires-clause-names : goal.take_disks-requires-clause-names
take_disks-requires-clause-names g c = names_apart c.args.plan _ c.disks.ensures.plan c.disks.ensures.disks

-- each disk was had in the sectors of its declaration
pub open_mesh-requires : goal.open_mesh-requires
open_mesh-requires g c =
    subst (λ (ds : List _). FactsFit c.args.plan (map size_of (map (drive_view g.H.D.Disk.view) ds)))
    (sym c.as_slice.ensures.value)
    (sizes_fit c.args.plan c.disks.result.now _ _ _ c.disks.ensures.plan c.disks.ensures.disks c.in-Ok.ensures.taken)

-- memory for the mesh was wanting: all disks of the plan are out by their names
pub give_back-requires : goal.give_back-requires
give_back-requires g c = record {
  out = drives_out c.args.plan c.disks.result.now c.in-Ok.lent.names.items _ _ _ c.disks.ensures.plan
      c.disks.ensures.disks c.in-Ok.ensures.named c.in-Ok.ensures.taken;
}

-- a disk couldn't be had, and those before it were given back
pub returns-in-Err-clause-stopped : goal.returns-in-Err-clause-stopped
returns-in-Err-clause-stopped g c =
    plan_stops c.args.plan c.disks.result.now c.in-Err.stop _ _ c.disks.ensures.plan c.disks.ensures.disks
    c.in-Err.ensures.stopped

-- the mesh has the plan, and the sizes of the drives that are out
pub returns-in-Ok-open_mesh-clause-opened : goal.returns-in-Ok-open_mesh-clause-opened
returns-in-Ok-open_mesh-clause-opened g c =
    plan_opened c.args.plan c.disks.result.now c.in-Ok.lent.names.items _ _ c.in-Ok-open_mesh.mesh
    c.in-Ok-open_mesh.facts.items _ _ c.disks.ensures.plan c.disks.ensures.disks c.in-Ok.ensures.named
    c.in-Ok.ensures.taken (ap (λ (ds : List _). map (drive_view g.H.D.Disk.view) ds) c.as_slice.ensures.value)
    c.in-Ok-open_mesh.ensures.mesh c.in-Ok-open_mesh.ensures.history c.in-Ok-open_mesh.ensures.facts

-- all disks were had and given back, since there is no memory for the mesh
pub returns-in-Err-open_mesh-clause-stopped : goal.returns-in-Err-open_mesh-clause-stopped
returns-in-Err-open_mesh-clause-stopped g c =
    plan_lost c.args.plan c.disks.result.now c.in-Ok.lent.names.items _ _ _ _ c.disks.ensures.plan
    c.disks.ensures.disks c.in-Ok.ensures.named c.in-Ok.ensures.taken c.give_back.result c.give_back.ensures
