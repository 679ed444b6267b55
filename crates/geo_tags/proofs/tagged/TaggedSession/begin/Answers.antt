use Rattle.std.proofs.Common.{sym, subst}
use Rattle.geo_session.specs.Session.{SessionView}
use Rattle.geo_tags.specs.Tags.{tagged_view, EachWaits}
use Rattle.geo_tags.proofs.Waits.{opening_waits}
use Rattle.geo_tags.proofs.tagged.TaggedSession.begin.Goals as goal

pub invariant_of-result : goal.invariant_of-result
invariant_of-result c =
    subst (λ (v : SessionView). EachWaits (tagged_view v c.new.result)) (sym c.in_ok-session.ensures)
    (opening_waits c.args.plan.now c.args.disks.now.items 0 0 c.new.result c.new.ensures.empty)
