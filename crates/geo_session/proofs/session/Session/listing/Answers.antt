use Rattle.geo_session.proofs.Reading.{read_stands, reads}
use Rattle.geo_session.proofs.session.Session.listing.Goals as goal

pub listing-requires : goal.listing-requires
listing-requires c = record { stands = read_stands (reads c.deref.ensures c.self.view_is c.self.invariant) }
