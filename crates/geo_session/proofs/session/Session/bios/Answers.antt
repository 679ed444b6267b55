use Rattle.std.proofs.Common.{◌∙◌}
use Rattle.geo_session.proofs.Reading.{bios_shown, reads}
use Rattle.geo_session.proofs.session.Session.bios.Goals as goal

pub returns : goal.returns
returns c = c.len.ensures ∙ bios_shown (reads c.deref.ensures c.self.view_is c.self.invariant)
