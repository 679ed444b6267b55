use Rattle.std.proofs.Common.{◌∙◌, sym}
use Rattle.geo_drain.specs.Meshes.{world_of}
use Rattle.geo_elev.specs.Following.{Starts, TakesIfFollowed}
use Rattle.geo_elev.proofs.Histories.{if_followed, quiet_then, take_then, start_then}
use Rattle.geo_elev.proofs.heads.follow.Goals as goal

-- no head moves and nothing comes to wait at a disk, or leaves it
pub returns-then-is_quiet-clause-followed : goal.returns-then-is_quiet-clause-followed
returns-then-is_quiet-clause-followed c =
    λ seen n comes old.
    old ∙ quiet_then c.args.mesh.now c.requires.history seen c.args.entry.now c.args.is_last comes n
    (sym c.is_quiet.ensures ∙ c.if-is_quiet.true)

-- if it was followed, the bio of the Take waits no longer, and the disk's head stands behind it
pub returns-in-Asked-clause-followed : goal.returns-in-Asked-clause-followed
returns-in-Asked-clause-followed c =
    let m = c.args.mesh.now in
    let e = c.args.entry.now in
    let new = c.follow_take.new.disks in
    if_followed m e c.args.is_last c.args.disks.now new c.follow_take.result
    (λ ds b. TakesIfFollowed b c.in-Asked.request e.step ds new)
    (λ seen n b comes does.
    take_then m c.requires.history seen e c.args.is_last comes n b c.in-Asked.request new c.in-Asked.is does)
    c.follow_take.ensures.takes

-- it is the last entry, so the mesh still tells where at the disk the bio begins
pub returns-in-Queued-clause-followed : goal.returns-in-Queued-clause-followed
returns-in-Queued-clause-followed c =
    let m = c.args.mesh.now in
    let e = c.args.entry.now in
    let new = c.follow_start.new.disks in
    if_followed m e c.args.is_last c.args.disks.now new c.follow_start.result
    (λ ds b. Starts b (world_of m) c.in-Queued.disk e.step ds new)
    (λ seen n b comes does.
    start_then m c.requires.history seen e c.args.is_last comes n b c.in-Queued.disk new c.in-Queued.is
    c.if-is_last.true does)
    c.follow_start.ensures.starts
