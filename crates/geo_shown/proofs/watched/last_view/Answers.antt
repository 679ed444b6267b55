use Rattle.geo_shown.proofs.LastLemmas.{reply_seen}
use Rattle.geo_shown.proofs.watched.last_view.Goals as goal

-- the listing that was replied last is the mesh of that moment
pub returns-in-Some : goal.returns-in-Some
returns-in-Some c =
    reply_seen c.args.plan.now c.args.log.now.items c.args.opening.now c.in-Some.found.0 c.in-Some.found.1.now
    c.in-Some.ensures.number c.in-Some.ensures.listed
