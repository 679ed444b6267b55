-- The mesh goes to rest in the elevator order, or there is no memory for the heads.
use Rattle.std.proofs.Common.{List, [], length, refl, ◌∙◌, ap}
use Rattle.geo_model.specs.declared.command.DiskDecl.{DiskDecl}
use Rattle.geo_model.specs.World.{Plan}
use Rattle.geo_headline.specs.Sweep.{sweep_order}
use Rattle.geo_run.proofs.Asked.{adds_by, adds_nothing, ran_full, ran_to_rest}
use Rattle.geo_run.proofs.rest.in_elevator_order.Goals as goal

-- no step was made since the heads were made, so they stand where they begin
pub sweep_to_rest-requires-clause-heads : goal.sweep_to_rest-requires-clause-heads
sweep_to_rest-requires-clause-heads g c =
    let same = c.disks.ensures.disks ∙ ap (λ (p : Plan). p.disks) c.plan-plan.ensures.plan in (
      [],
      (c.args.mesh.now.log, refl),
      c.in-Ok.ensures.begin c.args.mesh.now c.plan-plan.ensures.history (ap (λ (ds : List DiskDecl). length ds) same),
    )

pub returns-in-Ok-clause-added : goal.returns-in-Ok-clause-added
returns-in-Ok-clause-added g c =
    adds_by sweep_order _ _ c.args.mesh.now c.sweep_to_rest.new.mesh c.sweep_to_rest.ensures.runs

pub returns-in-Ok-clause-history : goal.returns-in-Ok-clause-history
returns-in-Ok-clause-history g c = c.sweep_to_rest.ensures.history.keeps

pub returns-in-Ok-clause-fits : goal.returns-in-Ok-clause-fits
returns-in-Ok-clause-fits g c = c.sweep_to_rest.ensures.history.lawful.1

pub returns-in-Ok-clause-rest : goal.returns-in-Ok-clause-rest
returns-in-Ok-clause-rest g c =
    ran_to_rest _ c.sweep_to_rest.new.mesh c.sweep_to_rest.ensures.history c.sweep_to_rest.ensures.rest

pub returns-in-Ok-clause-full : goal.returns-in-Ok-clause-full
returns-in-Ok-clause-full g c = λ e. ran_full sweep_order c.sweep_to_rest.new.mesh (c.sweep_to_rest.ensures.full e)

pub returns-in-Err-clause-added : goal.returns-in-Err-clause-added
returns-in-Err-clause-added g c = adds_nothing sweep_order c.args.mesh.now _

pub returns-in-Err-clause-history : goal.returns-in-Err-clause-history
returns-in-Err-clause-history g c = c.plan-plan.ensures.history.keeps

pub returns-in-Err-clause-fits : goal.returns-in-Err-clause-fits
returns-in-Err-clause-fits g c = c.plan-plan.ensures.history.lawful.1
