use Rattle.std.proofs.Common.{[]}
use Rattle.geo_session.proofs.making.rise.Goals as goal

pub returns-clause-bytes : goal.returns-clause-bytes
returns-clause-bytes g c = λ bytes. c.up.ensures.logged [] bytes
