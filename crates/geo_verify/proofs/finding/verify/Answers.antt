use Rattle.geo_verify.proofs.TracesRead.{text_judged}
use Rattle.geo_verify.proofs.finding.verify.Goals as goal

-- what was replayed is the trace of the text, and what is found of it is found of the text
pub returns-in-Ok : goal.returns-in-Ok
returns-in-Ok c =
    text_judged c.args.text.now c.in-Ok.replayed c.judge.result c.in-Ok.ensures c.judge.ensures
