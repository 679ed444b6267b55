use Rattle.std.proofs.Common.{◌∙◌}
use Rattle.geo_session.proofs.Reading.{next_shown, reads}
use Rattle.geo_session.proofs.session.Session.next_bio.Goals as goal

pub returns : goal.returns
returns c =
    c.next_from.ensures.first ∙ next_shown (reads c.deref.ensures c.self.view_is c.self.invariant) c.args.from
