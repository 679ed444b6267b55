use Rattle.std.proofs.Common.{◌+◌, ap, arith, length, subst, sym}
use Rattle.std.proofs.lemmas.List.{length-append}
use Rattle.geo_lock.proofs.Prefixes.{prefix_trans}
use Rattle.geo_serve.specs.Drives.{drive_view}
use Rattle.geo_jobs.specs.Started.{AreStarted, IsFirst, other_workers}
use Rattle.geo_jobs.proofs.RunStarting.{others_started, started_append}
use Rattle.geo_jobs.proofs.start.start.Goals as goal

-- a pass was made for each client and for five more, and the first is one itself
pub returns-clause-first : goal.returns-clause-first
returns-clause-first g c =
    let made = c.start_clients.ensures.first.made in
    subst (λ n. IsFirst c.args.yard.now n c.start_others.new.first) (omega (arith, made)) c.start_others.ensures.first

pub returns-clause-count : goal.returns-clause-count
returns-clause-count g c =
    let long = ap (λ l. length l) c.start_others.ensures.items in
    let both =
    length-append c.start_clients.new.workers.items
    (other_workers c.start_clients.new.first c.passes_of-passes.result c.args.even c.args.odd) in
    let clients = c.start_clients.ensures.count in
    omega (arith, long, both, clients)

-- the clients were started with the first numbers, and the five others with those behind
pub returns-clause-started : goal.returns-clause-started
returns-clause-started g c drives evens odds fit_even fit_odd =
    let y = c.args.yard.now in
    let lanes = c.args.lanes.now in
    let seen = drive_view g.D.Disk.view in
    let actors = c.args.actors in
    let ws = c.start_clients.new.workers.items in
    let first = c.start_clients.new.first in
    let more = other_workers first c.passes_of-passes.result c.args.even c.args.odd in
    let behind =
    others_started y lanes seen actors drives first c.passes_of-passes.result c.args.even c.args.odd
    c.start_clients.ensures.first c.passes_of-passes.ensures evens odds fit_even fit_odd in
    subst (λ l. AreStarted y lanes seen actors drives 1 l) (sym c.start_others.ensures.items)
    (started_append y lanes seen actors drives 1 ws more (c.start_clients.ensures.started drives)
    (subst (λ n. AreStarted y lanes seen actors drives (1 + n) more) (sym c.start_clients.ensures.count) behind))

-- nobody who had begun was moved: clients came behind, and the others behind those
pub returns-clause-begins : goal.returns-clause-begins
returns-clause-begins g c =
    prefix_trans c.args.workers.now.items c.start_clients.new.workers.items c.start_others.new.workers.items
    c.start_clients.ensures.begins (
      other_workers c.start_clients.new.first c.passes_of-passes.result c.args.even c.args.odd,
      sym c.start_others.ensures.items,
    )
