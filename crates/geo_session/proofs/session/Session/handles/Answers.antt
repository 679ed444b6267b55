use Rattle.std.proofs.Common.{◌∙◌, ap, length}
use Rattle.geo_model.specs.World.{World}
use Rattle.geo_session.proofs.Reading.{reads, shows}
use Rattle.geo_session.proofs.session.Session.handles.Goals as goal

pub returns : goal.returns
returns c =
    c.len.ensures
    ∙ ap (λ (w : World). length w.handles) (shows (reads c.deref.ensures c.self.view_is c.self.invariant))
