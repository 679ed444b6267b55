-- What was seen begins with what was shown last, and begins that.
use Rattle.std.proofs.Common.{◌≡◌, ◌∙◌, Option, Some, IfOk, ap, subst, sym}
use Rattle.std.proofs.lemmas.Option.{none-some}
use mathlib.Core.List.{IsPrefix}
use Rattle.geo_jobs.specs.Ends.{PublisherView, listing_of_watcher}
use Rattle.geo_jobs.specs.Viewed.{IsLastLook, shown_by}
use Rattle.geo_jobs.specs.declared.left.Seen.TheVariants as seens
use Rattle.geo_jobs.proofs.Homing.{looked_once}
use Rattle.geo_jobs.proofs.watch.look_once.Goals as goal

-- whoever looks looks at what somebody shows
pub unreachable-requires : goal.unreachable-requires
unreachable-requires g c =
    none-some c.args.watcher.view (sym (ap (λ (p : Option PublisherView). shown_by p) c.in_default.is) ∙ c.requires)

pub returns-in-Ok : goal.returns-in-Ok
returns-in-Ok g c =
    let listed = subst (λ r. IfOk r (λ l. l ≡ listing_of_watcher c.look-list.new.self)) c.in-Ok.is
    c.look-list.ensures.list in
    let within = subst (λ (q : PublisherView). IsPrefix c.tell-seen.result.stood q.stands) c.tell-note.ensures.same
    c.learn-2.ensures.begins in
    subst (λ (p : Option PublisherView). IsLastLook (Some c.args.watcher) p (seens.List c.in-Ok.list))
    (sym c.in-Some.is)
    (looked_once c.args.watcher c.in-Some.publisher c.learn.new.self c.look-list.new.self c.tell-note.result.stood
    c.tell-seen.result.stood c.in-Ok.list c.learn.ensures.same.1 c.learn.ensures.told c.tell-note.ensures.told.1
    c.look-list.ensures.same.1 c.look-list.ensures.later.1 listed c.tell-seen.ensures.told.1 within)
