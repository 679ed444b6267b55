use Rattle.std.proofs.Common.{List, length, ap, ◌∙◌}
use Rattle.geo_model.specs.declared.command.DiskDecl.{DiskDecl}
use Rattle.geo_model.specs.World.{Plan}
use Rattle.geo_tests_runs.proofs.bench.heads_of.Goals as goal

pub returns-in-Ok : goal.returns-in-Ok
returns-in-Ok c =
    let same = c.disks.ensures.disks ∙ ap (λ (p : Plan). p.disks) c.plan-plan.ensures.plan in
    c.in-Ok.ensures.begin c.args.mesh.now c.plan-plan.ensures.history (ap (λ (ds : List DiskDecl). length ds) same)
