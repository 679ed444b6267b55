use Rattle.std.proofs.Common.{◌∙◌}
use Rattle.geo_elev.proofs.Nexts.{first_is}
use Rattle.geo_elev.proofs.elevator.Heads.next_take.Goals as goal

-- what is kept after the whole log is what waits in the world
pub returns-clause-next : goal.returns-clause-next
returns-clause-next c = λ m history are. c.kept_take.ensures ∙ first_is m history c.args.self.now are
