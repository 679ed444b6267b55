use Rattle.geo_base.proofs.RunsFault.{runs-one}
use Rattle.geo_base.proofs.runs.runs_have_one_reading.Goals as goal

pub returns : goal.returns
returns c = runs-one c.args.text.now c.args.bytes.now c.args.others.now c.requires.reading c.requires.another
