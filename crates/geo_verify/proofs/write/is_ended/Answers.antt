use Rattle.std.proofs.Common.{Some, None}
use Rattle.geo_verify.proofs.WrittenOut.{last_is}
use Rattle.geo_verify.proofs.write.is_ended.Goals as goal

pub returns-in-Some : goal.returns-in-Some
returns-in-Some c = last_is c.args.script.now (Some c.in-Some.last.now) c.in-Some.ensures.value

pub returns-in-None : goal.returns-in-None
returns-in-None c = last_is c.args.script.now None c.in-None.ensures.value
