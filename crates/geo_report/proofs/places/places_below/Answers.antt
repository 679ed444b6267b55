use Rattle.std.proofs.Common.{arith}
use Rattle.geo_report.proofs.PlaceLemmas.{are_places}
use Rattle.geo_report.proofs.places.places_below.Goals as goal

-- all entries were met, so each line has the place of its first reply
pub returns : goal.returns
returns c =
    are_places c.args.log.now c.loop-place.place c.args.lines c.loop-place.found.items (omega arith) (omega arith)
    c.loop-place.invariant
