use Rattle.geo_report.proofs.TextLemmas.{few_lines}
use Rattle.geo_report.proofs.print.report.Goals as goal

-- the lines of a plan are within the limit
pub add_lines-requires-clause-lines : goal.add_lines-requires-clause-lines
add_lines-requires-clause-lines c =
    few_lines c.args.plan.now c.commands.ensures.plan c.commands.result.now c.commands.ensures.commands
