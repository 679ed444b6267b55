use Rattle.std.specs.Prelude.{◌≤◌}
use Rattle.std.proofs.Common.{Some, None, ◌∙◌, arith}
use Rattle.geo_base.specs.declared.limits.TheConstants.{MAX_REQUEST_BYTES}
use Rattle.geo_bio.specs.Rows.{as_bio}
use Rattle.geo_session.proofs.Reading.{bytes_shown, held_is_short, reads}
use Rattle.geo_session.proofs.session.Session.room.Goals as goal

pub bytes_read-requires : goal.bytes_read-requires
bytes_read-requires c is_read =
    let short : c.in-Some.found.now.span.len ≤ MAX_REQUEST_BYTES =
    held_is_short (reads c.deref.ensures c.self.view_is c.self.invariant) c.args.bio
    (as_bio c.args.bio c.in-Some.found.now) c.in-Some.ensures.found is_read in
    omega (arith, short)

pub returns-in-Some : goal.returns-in-Some
returns-in-Some c =
    c.bytes_read.ensures
    ∙ bytes_shown (reads c.deref.ensures c.self.view_is c.self.invariant) c.args.bio
    (Some (as_bio c.args.bio c.in-Some.found.now)) c.in-Some.ensures.found

pub returns-in-None : goal.returns-in-None
returns-in-None c =
    bytes_shown (reads c.deref.ensures c.self.view_is c.self.invariant) c.args.bio None c.in-None.ensures.found
