use Rattle.geo_session.proofs.Reading.{actors_shown, reads}
use Rattle.geo_session.proofs.session.Session.actors.Goals as goal

pub returns : goal.returns
returns c = actors_shown (reads c.deref.ensures c.self.view_is c.self.invariant)
