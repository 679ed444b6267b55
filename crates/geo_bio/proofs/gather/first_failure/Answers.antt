use Rattle.std.proofs.Common.{Some, None}
use Rattle.geo_bio.proofs.FamilyLemmas.{error_from-at}
use Rattle.geo_bio.proofs.gather.first_failure.Goals as goal

-- none before this one holds an error, so its error is the first
pub returns-in-Some : goal.returns-in-Some
returns-in-Some c =
    error_from-at c.args.bios.now.rows c.args.first c.loop-place.place c.args.count (Some c.in-Some.errno)
    c.loop-place-test.true c.in-Some.ensures c.loop-place.invariant

-- this one holds no error, so the first is that of those behind it
pub loop-place-preserved : goal.loop-place-preserved
loop-place-preserved c =
    error_from-at c.args.bios.now.rows c.args.first c.loop-place.place c.args.count None c.loop-place-test.true
    c.in_default.ensures c.loop-place.invariant
