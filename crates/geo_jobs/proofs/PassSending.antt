-- A pass of a yard that holds a mesh may go to another thread.
use denote.Param.Send.{IsSend}
use Rattle.geo_core.proofs.mesh.Mesh.TheSendSync as mesh_crosses
use Rattle.geo_core.specs.contracts.logged.MeshLogged.TheImpl.{ghosts}
use Rattle.geo_core.specs.contracts.logged.MeshStart as start
use Rattle.geo_core.specs.contracts.mesh.Mesh as mesh
use Rattle.geo_core.specs.contracts.refusal.ApplyRefusal as refusal
use Rattle.geo_lock.proofs.pass.Pass.TheSendSync as pass_crosses
use Rattle.geo_lock.specs.contracts.pass.Pass as pass
use Rattle.geo_model.specs.contracts.step.Entry as entry
use Rattle.geo_model.specs.contracts.step.Outcome as outcome
use Rattle.geo_model.specs.contracts.step.Step as step

pub pass_send : IsSend
    (pass.the_row mesh.the_row start.the_row entry.the_row step.the_row outcome.the_row refusal.the_row ghosts)
pass_send =
    pass_crosses.the_send mesh.the_row start.the_row entry.the_row step.the_row outcome.the_row refusal.the_row ghosts
    mesh_crosses.the_send
