use Rattle.geo_report.proofs.TextLemmas.{few_lines}
use Rattle.geo_report.proofs.print.summary.Goals as goal

-- the lines of a plan are within the limit
pub tally_of-tally-requires-clause-lines : goal.tally_of-tally-requires-clause-lines
tally_of-tally-requires-clause-lines c =
    few_lines c.args.plan.now c.commands.ensures.plan c.commands.result.now c.commands.ensures.commands
