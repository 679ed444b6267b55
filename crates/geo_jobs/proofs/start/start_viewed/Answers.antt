use Rattle.std.specs.Prelude.{Option, option_and_then}
use Rattle.std.proofs.Common.{◌∙◌, ap, length, subst, sym}
use Rattle.geo_serve.specs.Drives.{drive_view}
use Rattle.geo_jobs.specs.Ends.{CanShow}
use Rattle.geo_jobs.specs.Listings.{listing_seen}
use Rattle.geo_jobs.specs.Passes.{MeshPass}
use Rattle.geo_jobs.specs.Started.{HasBegun}
use Rattle.geo_jobs.proofs.RunStarting.{begun_push, can_show, next_listing, none_begun}
use Rattle.geo_jobs.proofs.start.start_viewed.Goals as goal

-- the next pass has seen what the first has, so the list is the mesh as it has seen it
pub view_create-requires : goal.view_create-requires
view_create-requires g c =
    c.requires.list ∙ sym (ap (λ (p : MeshPass). listing_seen p) c.next_pass-pass.ensures.pass
    ∙ next_listing c.args.first.now c.args.first.now.made)

-- nobody had begun, so this is the client of the first actor, and it can show what its pass has seen
pub returns-clause-begun : goal.returns-clause-begun
returns-clause-begun g c actors lt =
    let y = c.args.yard.now in
    let lanes = c.args.lanes.now in
    let seen = drive_view g.D.Disk.view in
    let first = c.args.first.now in
    let down = c.args.down.now in
    let ws = c.args.workers.now.items in
    let shown = c.in_ok-publisher.ensures.publisher in
    let before =
    none_begun y lanes seen actors first down ws c.requires.none c.requires.first c.requires.down in
    subst (λ l. HasBegun y lanes seen actors c.next_pass-pass.new.first c.putter-puts.new.taker l)
    (sym c.hire.ensures.items)
    (begun_push y lanes seen actors first c.next_pass-pass.new.first down c.putter-puts.new.taker c.putter-puts.result
    ws 0 c.client.result.pass c.client.result.role _ before (ap (λ l. length l) c.requires.none) lt
    (c.client.ensures.pass ∙ c.next_pass-pass.ensures.pass) c.next_pass-pass.ensures.first c.putter-puts.ensures.new
    c.putter-puts.ensures.same c.client.ensures.role
    (subst (λ p. CanShow c.in_ok-publisher.publisher p) (sym c.client.ensures.pass)
    (can_show c.in_ok-publisher.publisher c.next_pass-pass.result shown.0 shown.1)))

-- the pass is of the yard, and the view began with it
pub returns-clause-of_yard : goal.returns-clause-of_yard
returns-clause-of_yard g c =
    ap (λ (o : Option MeshPass). option_and_then (λ (p : MeshPass). p.start) o) c.in_ok-publisher.ensures.watcher.1
    ∙ (ap (λ (p : MeshPass). p.start) c.next_pass-pass.ensures.pass ∙ c.requires.first.of_yard.start)
