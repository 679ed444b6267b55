use Rattle.std.proofs.Common.{rules}
use Rattle.geo_jobs.proofs.Shows.{shows_on}
use Rattle.geo_tests_threads.proofs.Starts.{reply_shows, went}
use Rattle.geo_tests_threads.proofs.view.go.Goals as goal

pub show-requires-clause-list : goal.show-requires-clause-list
show-requires-clause-list g c = let made = c.in-Made-Replied-default-Listing in
    reply_shows c.args.yard.now.start c.args.showing.now.pass c.try_step.new.pass 0 made.field-0-0 made.list _
    c.requires.own.start made.ensures.did (search rules)

pub returns-clause-shows : goal.returns-clause-shows
returns-clause-shows g c =
    let on = went c.args.yard.now.start c.args.showing.now.pass c.try_step.new.pass _ c.try_step.result
    c.try_step.ensures.did in
    shows_on c.args.showing.now.publisher c.args.showing.now.pass c.try_step.new.pass c.requires.shows on.0 on.1
