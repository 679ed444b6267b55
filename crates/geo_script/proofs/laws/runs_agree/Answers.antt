use Rattle.geo_script.proofs.RunsAgree.{runs-agree}
use Rattle.geo_script.proofs.laws.runs_agree.Goals as goal

pub returns : goal.returns
returns c = runs-agree
