-- COUNT is a number.
use Rattle.std.proofs.Common.{refl}
use Rattle.geo_run.proofs.words.counted.Goals as goal

pub returns-in-Some : goal.returns-in-Some
returns-in-Some c = (c.in-Some.count, refl, c.in-Some.ensures)
