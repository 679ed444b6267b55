-- START is a number, or isn't.
use Rattle.geo_run.proofs.Digits.{no_start, with_start}
use Rattle.geo_run.proofs.words.generation.Goals as goal

pub returns-in-None : goal.returns-in-None
returns-in-None c = no_start _ _ c.in-None.ensures

pub returns-in-Some : goal.returns-in-Some
returns-in-Some c = with_start _ _ c.in-Some.start _ c.in-Some.ensures c.counted.ensures
