use Rattle.std.proofs.Common.{◌∷◌, ◌∙◌, ap, arith, subst, sym, vec_capacity}
use Rattle.geo_lock.specs.Yard.{IsWhole}
use Rattle.geo_serve.specs.Drives.{drive_view}
use Rattle.geo_jobs.specs.Closing.{EndsYard}
use Rattle.geo_jobs.specs.Deal.{AreTwo, gathered_of}
use Rattle.geo_jobs.proofs.Leaving.{threads_ran, crew_ended, few_drives, first_listing, is_first, ready_all}
use Rattle.geo_jobs.proofs.Homing.{as_many, ends_alike, last_look_looked, looks_meet, nobody_looks, ran_view, shown_begins, shows_prefix, somebody_looks}
use Rattle.geo_jobs.specs.Viewed.{HasLooked, ShowsPrefixOf}
use Rattle.geo_jobs.proofs.threads.run_in_yard.Goals as goal

-- a plan has few actors, and a mesh few disks, each with one drive
pub start_all-requires-clause-few : goal.start_all-requires-clause-few
start_all-requires-clause-few g c =
    let few = c.requires.history.plan.begins.few_actors in
    let is = c.requires.actors in
    omega (arith, few, is)

pub start_all-requires-clause-few_drives : goal.start_all-requires-clause-few_drives
start_all-requires-clause-few_drives g c =
    let few =
    few_drives c.args.yard (drive_view g.D.Disk.view) c.args.given.drives.items c.requires.history c.requires.fit in
    let len = c.args.given.drives.ok.0 in
    omega (arith, few, len)

pub start_all-requires-clause-first : goal.start_all-requires-clause-first
start_all-requires-clause-first g c = is_first c.args.yard c.args.first c.requires.first

pub start_all-requires-clause-shown : goal.start_all-requires-clause-shown
start_all-requires-clause-shown g c =
    first_listing c.args.yard c.args.first c.requires.first c.args.given.shown c.requires.shown

pub run_watched-crew-requires-clause-some : goal.run_watched-crew-requires-clause-some
run_watched-crew-requires-clause-some g c = let long = c.in-Ok.ensures.ok.many in omega (arith, long)

pub run_watched-crew-requires-clause-ready : goal.run_watched-crew-requires-clause-ready
run_watched-crew-requires-clause-ready g c _ _ =
    ready_all c.args.yard c.args.room.lanes (drive_view g.D.Disk.view) c.args.actors c.args.given.drives.items 1
    c.in-Ok.crew.workers.items c.in-Ok.ensures.ok.started

-- a worker that ran shows the same view as before, and that is the one which is looked at
pub look_last-seen-requires : goal.look_last-seen-requires
look_last-seen-requires g c =
    let crew = c.in-Ok.crew in
    let after = c.run_watched-crew.result in
    let ran = c.run_watched-crew.ensures in
    looks_meet crew.watcher after.watcher c.take_publisher-publisher.result crew.workers.items after.workers.items
    c.in-Ok.ensures.ok.looks ran.view
    (ran_view c.args.yard c.args.room.lanes (drive_view g.D.Disk.view) crew.workers.items after.workers.items ran.ran)
    c.take_publisher-publisher.ensures.publisher

-- all passes that were made are the workers', who ended, and the first
pub close_all-requires-clause-whole : goal.close_all-requires-clause-whole
close_all-requires-clause-whole g c =
    let all = crew_ended c.run_watched-crew.result c.requires.actors c.in-Ok.ensures.ok
    c.run_watched-crew.ensures.ran in
    subst (λ ps. IsWhole c.args.yard (c.start_all.new.first ∷ ps)) (sym c.take_publisher-publisher.ensures.passes)
    all.whole

-- two of the workers are disk workers, and their drives are all, for which there is room
pub close_all-requires-clause-two : goal.close_all-requires-clause-two
close_all-requires-clause-two g c =
    let back = c.requires.room.back in
    let len = c.args.given.drives.ok.0 in
    let all = crew_ended c.run_watched-crew.result c.requires.actors c.in-Ok.ensures.ok
    c.run_watched-crew.ensures.ran in
    subst (λ l. AreTwo (vec_capacity c.args.room.comes.back) l) (sym c.take_publisher-publisher.ensures.lists)
    (all.two (vec_capacity c.args.room.comes.back) (omega (arith, back, len)))

-- room was made for as many workers as there are, and taking away the publisher leaves them
pub close_all-requires-clause-room : goal.close_all-requires-clause-room
close_all-requires-clause-room g c =
    let room = c.requires.room.comes in
    let passes = room.passes in
    let lists = room.lists in
    let is = c.requires.actors in
    let all = crew_ended c.run_watched-crew.result c.requires.actors c.in-Ok.ensures.ok
    c.run_watched-crew.ensures.ran in
    let long = all.many in
    let same =
    as_many c.run_watched-crew.result.workers.items c.take_publisher-publisher.new.workers.items
    c.take_publisher-publisher.ensures.answers in
    record {
      no_pass = room.no_pass;
      passes = omega (arith, passes, is, long, same);
      no_list = room.no_list;
      lists = omega (arith, lists, is, long, same);
      no_drive = room.no_drive;
    }

-- each worker ended as its job does, so the log of all tells why the run ended and what the drives did
pub returns-in-Ok-clause-ok : goal.returns-in-Ok-clause-ok
returns-in-Ok-clause-ok g c =
    let y = c.args.yard in
    let first = c.start_all.new.first in
    let after = c.run_watched-crew.result.workers.items in
    let home = c.take_publisher-publisher.new.workers.items in
    let taken = c.take_publisher-publisher.ensures in
    let end = c.close_all.ensures in
    let all = crew_ended c.run_watched-crew.result c.requires.actors c.in-Ok.ensures.ok
    c.run_watched-crew.ensures.ran in
    threads_ran y (drive_view g.D.Disk.view) c.args.given.drives.items c.close_all.result.drives.items first after
    c.close_all.result.mesh c.close_all.result.ended c.requires.fit c.in-Ok.ensures.ok.first_is.own all.ended all.many
    (subst (λ ps. EndsYard y (first ∷ ps) c.close_all.result.mesh) taken.passes end.mesh)
    (end.drives ∙ ap (λ l. gathered_of l) taken.lists)
    (ends_alike after home taken.answers c.close_all.result.ended end.ended)

-- nothing was to be shown, so nobody looked before or after
pub returns-in-Ok-clause-unseen : goal.returns-in-Ok-clause-unseen
returns-in-Ok-clause-unseen g c none =
    c.close_all.ensures.seen ∙ c.look_last-seen.ensures.none (nobody_looks c.in-Ok.crew.watcher
    c.run_watched-crew.result.watcher c.run_watched-crew.ensures.view (c.in-Ok.ensures.unseen none))

-- somebody looked before, and so looks once more when all jobs have ended
pub returns-in-Ok-clause-looked : goal.returns-in-Ok-clause-looked
returns-in-Ok-clause-looked g c some actors =
    subst HasLooked (sym c.close_all.ensures.seen)
    (last_look_looked c.run_watched-crew.result.watcher c.take_publisher-publisher.result c.look_last-seen.result
    (somebody_looks c.in-Ok.crew.watcher c.run_watched-crew.result.watcher c.run_watched-crew.ensures.view
    (c.in-Ok.ensures.watched some actors)) c.look_last-seen.ensures.last)

-- what was shown last was seen by the pass of the first client, which is good in the log of all
pub returns-in-Ok-clause-shows : goal.returns-in-Ok-clause-shows
returns-in-Ok-clause-shows g c =
    let y = c.args.yard in
    let seen = drive_view g.D.Disk.view in
    let crew = c.in-Ok.crew in
    let after = c.run_watched-crew.result in
    let ran = c.run_watched-crew.ensures in
    let taken = c.take_publisher-publisher in
    let m = c.close_all.result.mesh in
    let ended = subst (λ ps. EndsYard y (c.start_all.new.first ∷ ps) m) taken.ensures.passes c.close_all.ensures.mesh in
    let looks = looks_meet crew.watcher after.watcher taken.result crew.workers.items after.workers.items
    c.in-Ok.ensures.ok.looks ran.view
    (ran_view y c.args.room.lanes seen crew.workers.items after.workers.items ran.ran) taken.ensures.publisher in
    subst (λ s. ShowsPrefixOf m s) (sym c.close_all.ensures.seen)
    (shows_prefix y crew.watcher after.watcher taken.result c.look_last-seen.result m ended.begun c.in-Ok.ensures.of_yard
    ran.begun looks
    (shown_begins y c.args.room.lanes seen crew.workers.items after.workers.items c.start_all.new.first m taken.result
    ran.ran ended taken.ensures.publisher) c.look_last-seen.ensures.last)
