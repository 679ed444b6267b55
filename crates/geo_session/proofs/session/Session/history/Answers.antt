use Rattle.std.proofs.Common.{refl}
use Rattle.geo_session.proofs.Reading.{read_history, reads}
use Rattle.geo_session.proofs.session.Session.history.Goals as goal

pub returns-clause-history : goal.returns-clause-history
returns-clause-history c = read_history (reads refl c.self.view_is c.self.invariant)
