use Rattle.std.proofs.Common.{◌∙◌}
use Rattle.geo_report.proofs.RunTexts.{is_one}
use Rattle.geo_report.proofs.runs.is_one_run.Goals as goal

-- bytes of which each is the one before it are their first, so many times
pub returns : goal.returns
returns c = c.eq.ensures ∙ is_one c.args.bytes.now c.requires
