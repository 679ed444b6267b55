use Rattle.std.proofs.Common.{rules}
use Rattle.geo_connection.proofs.Standing.{asked_stands}
use Rattle.geo_connection.proofs.meeting.stands.Goals as goal

pub returns : goal.returns
returns c =
    asked_stands c.args.size c.args.request.now c.args.cmd c.args.bytes.now c.ranges.size.fits (search rules)
    c.requires.whole c.requires.stands
