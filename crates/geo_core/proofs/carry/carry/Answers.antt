use Rattle.std.proofs.Common.{sym, subst}
use Rattle.geo_model.specs.declared.step.Entry.{Entry}
use Rattle.geo_log.specs.Room.{Room}
use Rattle.geo_core.specs.Mesh.{Made}
use Rattle.geo_core.specs.Running.{seen, IsMesh}
use Rattle.geo_core.proofs.Admits.{not_ok}
use Rattle.geo_core.proofs.Meshes.{mesh_stands, mesh_names, mesh_commands, same_mesh, one_place, more_mesh, more_made}
use Rattle.geo_core.proofs.Making.{sure_now}
use Rattle.geo_core.proofs.carry.carry.Goals as goal

pub make-requires-clause-stands : goal.make-requires-clause-stands
make-requires-clause-stands g c = mesh_stands c.args.running.now c.requires.mesh

pub make-requires-clause-named : goal.make-requires-clause-named
make-requires-clause-named g c = mesh_names c.args.running.now c.requires.mesh

pub make-requires-clause-commands : goal.make-requires-clause-commands
make-requires-clause-commands g c = mesh_commands c.args.running.now c.requires.mesh

-- the step was admitted with room for its entry, and making it left the log alone
pub push-requires : goal.push-requires
push-requires g c =
    one_place c.args.running.now c.make.new.left c.make.new.state c.args.seat c.args.step c.in_ok-outcome.outcome
    c.requires.mesh c.requires.admitted.place c.requires.admitted.room c.make.ensures.next c.make.ensures.kept
    c.in_ok-outcome.ensures.logged c.in_ok-outcome.ensures.made

-- the log with the entry leads to the new state, and leaves room for what is owed then
pub returns-clause-mesh : goal.returns-clause-mesh
returns-clause-mesh g c =
    subst
    (λ (l : Room Entry).
    IsMesh (record c.args.running.now { left = c.make.new.left; state = c.make.new.state; log = l }))
    (sym c.push.ensures)
    (more_mesh c.args.running.now c.make.new.left c.make.new.state c.args.seat c.args.step c.in_ok-outcome.outcome
    c.requires.mesh c.requires.admitted.place c.requires.admitted.room c.make.ensures.next c.make.ensures.kept
    c.in_ok-outcome.ensures.logged c.in_ok-outcome.ensures.made)

-- the log is the one before with the entry behind it, and the step leads there
pub returns-clause-made : goal.returns-clause-made
returns-clause-made g c = (
  c.in_ok-outcome.outcome,
  subst
      (λ (l : Room Entry). Made (seen c.args.running.now)
      (seen (record c.args.running.now { left = c.make.new.left; state = c.make.new.state; log = l })) c.args.seat
      c.args.step c.in_ok-outcome.outcome)
      (sym c.push.ensures)
      (more_made c.args.running.now c.make.new.left c.make.new.state c.args.seat c.args.step c.in_ok-outcome.outcome
      c.requires.mesh c.requires.admitted.place c.requires.admitted.room c.make.ensures.next c.make.ensures.kept
      c.in_ok-outcome.ensures.logged c.in_ok-outcome.ensures.made),
)

-- memory was wanting: no command is gone, and the state stands for the same world
pub returns-in_err-outcome-clause-mesh : goal.returns-in_err-outcome-clause-mesh
returns-in_err-outcome-clause-mesh g c =
    rw c.in_err-outcome.ensures.left_stays
    (same_mesh c.args.running.now c.make.new.state c.requires.mesh c.make.ensures.kept c.in_err-outcome.ensures.same
    c.in_err-outcome.ensures.bytes)

-- in the world of the state too it is a step that is never refused, and that takes no memory
pub returns-in_err-outcome-clause-sure : goal.returns-in_err-outcome-clause-sure
returns-in_err-outcome-clause-sure g c = λ sure.
    let ok = c.make.ensures.sure (sure_now c.args.running.now c.requires.mesh c.args.seat c.args.step sure) in
    absurd (not_ok _ _ c.in_err-outcome.was ok)
