use Rattle.std.proofs.Common.{arith}
use Rattle.std.proofs.lemmas.List.Elements.{recursion_from_All}
use Rattle.std.proofs.lemmas.Result.{err_from_is_err_and}
use Rattle.geo_model.specs.Plans.{IsDiskDecl}
use Rattle.geo_headline.specs.Traces.{read_behind, parts_of}
use Rattle.geo_verify.specs.Forms.{sizes_from}
use Rattle.geo_verify.specs.Replays.{trace_from}
use Rattle.geo_verify.proofs.TracesRead.{fault_first, behind_is, as_read, sizes_fit}
use Rattle.geo_verify.proofs.replaying.replay_behind.Goals as goal

-- the sizes that were read are one for each disk of the plan, in its sectors
pub replay_steps-requires : goal.replay_steps-requires
replay_steps-requires c =
    let read = rw c.disks-2.ensures.disks at c.in_ok-steps.ensures.read in
    record {
      fit = sizes_fit c.args.plan c.args.place _
          (recursion_from_All IsDiskDecl c.args.plan.disks c.disks-2.ensures.plan.begins.disks)
          read;
      few = omega (arith, c.requires, c.in_ok-steps.ensures.behind);
    }

-- a fault among the sizes is the first of the trace
pub returns-in_err-steps : goal.returns-in_err-steps
returns-in_err-steps c =
    let p = err_from_is_err_and c.from_residual-in_err-steps.result c.from_residual-in_err-steps.ensures.1 in
    rw (p.1, p.2)
    (fault_first (sizes_from c.args.place c.args.plan.disks) _ c.in_err-steps.field-0.0
    (rw c.disks-2.ensures.disks at c.in_err-steps.ensures.read))

-- what is read behind the sizes is what is read from their end on
pub returns : goal.returns
returns c =
    as_read (read_behind c.args.place.line c.args.plan (parts_of c.args.place.text.now))
    (trace_from c.args.plan c.read_sizes.new.facts.items c.in_ok-steps.steps) c.replay_steps.result
    (behind_is c.args.plan c.args.place c.in_ok-steps.steps c.read_sizes.new.facts.items
    (rw c.disks-2.ensures.disks at c.in_ok-steps.ensures.read)) c.replay_steps.ensures
