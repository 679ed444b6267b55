use Rattle.geo_session.proofs.Reading.{read_stands, reads}
use Rattle.geo_session.proofs.session.Session.first_to_take.Goals as goal

pub first_to_take-requires : goal.first_to_take-requires
first_to_take-requires c = record { stands = read_stands (reads c.deref.ensures c.self.view_is c.self.invariant) }
