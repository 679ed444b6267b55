-- The drives are given back, and what is due is made.
use Rattle.std.proofs.Common.{Some, refl}
use Rattle.geo_run.proofs.Running.{ran_drives, ran_due}
use Rattle.geo_run.proofs.script_run.finish_run.Goals as goal

-- the drives that came back are what the run says of them, and what is due is that of its mesh and its answer
pub returns : goal.returns
returns g c = record {
  runs = λ old xs ran facts sizes.
      ran_drives _ _ old c.in-Some.mesh _ xs _ _ c.give_back-kept.result c.due_of-due.result c.args.names.items
      c.args.facts.items (Some c.into_log.result) c.into_log.result _ _ c.in-Some.is ran c.due_of-due.ensures
      c.give_back-kept.ensures facts sizes refl c.into_log.ensures.log;
  due = λ old xs ran facts sizes.
      ran_due _ _ old c.in-Some.mesh _ xs _ _ c.give_back-kept.result c.due_of-due.result c.args.facts.items
      (Some c.into_log.result) c.into_log.result c.in-Some.is ran c.due_of-due.ensures facts refl
      c.into_log.ensures.log;
}
