use Rattle.std.proofs.Common.{[]}
use Rattle.geo_session.specs.Session.{none_left}
use Rattle.geo_session.proofs.Reading.{read_stands, reads, rested}
use Rattle.geo_session.proofs.session.Session.at_rest.Goals as goal

pub is_unsettled-requires : goal.is_unsettled-requires
is_unsettled-requires c = record { stands = read_stands (reads c.deref.ensures c.self.view_is c.self.invariant) }

pub returns : goal.returns
returns c =
    rested (reads c.deref.ensures c.self.view_is c.self.invariant) c.is_unsettled.result
    (c.is_unsettled.ensures (none_left c.deref.result.now.actors) [])
