use Rattle.std.proofs.Common.{◌∙◌, ap, Err}
use Rattle.geo_verify.proofs.Makings.{full_never}
use Rattle.geo_verify.proofs.make.try_step.Goals as goal

-- a trace has fewer steps than would fill the log
pub unreachable-requires : goal.unreachable-requires
unreachable-requires c =
    full_never c.make.result c.args.mesh.now c.make.new.self c.args.seat c.args.step c.requires.history c.requires.few
    (c.in-Err-LogFull.is ∙ ap Err c.in-Err-LogFull.field-0-is) c.make.ensures.answer
