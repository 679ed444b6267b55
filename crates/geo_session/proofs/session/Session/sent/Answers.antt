use Rattle.std.proofs.Common.{Some, None, ◌<◌, ◌^◌, ◌∙◌, ap, subst, sym}
use Rattle.geo_model.specs.World.{World}
use Rattle.geo_bio.specs.Rows.{as_bio}
use Rattle.geo_moves.specs.Spots.{spot_in}
use Rattle.geo_session.specs.declared.live.Live.{Live}
use Rattle.geo_session.proofs.Reading.{reads, shows, spot_shown}
use Rattle.geo_session.proofs.session.Session.sent.Goals as goal

-- where the bio of the table goes, that of the world goes
pub returns-in-Some-clause-spot : goal.returns-in-Some-clause-spot
returns-in-Some-clause-spot c =
    c.spot_in.ensures
    ∙ ap (λ (l : Live). spot_in l.state.topo.topology (as_bio c.args.bio c.in-Some.found.now))
    (c.deref-in-Some.ensures ∙ sym c.deref.ensures)
    ∙ spot_shown (reads c.deref.ensures c.self.view_is c.self.invariant) c.args.bio
    (Some (as_bio c.args.bio c.in-Some.found.now)) c.in-Some.ensures.found

pub returns-in-Some-clause-bound : goal.returns-in-Some-clause-bound
returns-in-Some-clause-bound c =
    subst (λ (w : World). w.next_bio < 2 ^ 64)
    (shows (reads c.deref.ensures c.self.view_is c.self.invariant)) c.get.ensures.bound

pub returns-in-None-clause-spot : goal.returns-in-None-clause-spot
returns-in-None-clause-spot c =
    spot_shown (reads c.deref.ensures c.self.view_is c.self.invariant) c.args.bio None c.in-None.ensures.found

pub returns-in-None-clause-bound : goal.returns-in-None-clause-bound
returns-in-None-clause-bound c =
    subst (λ (w : World). w.next_bio < 2 ^ 64)
    (shows (reads c.deref.ensures c.self.view_is c.self.invariant)) c.get.ensures.bound
