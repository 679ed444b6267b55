use Rattle.std.proofs.Common.{◌+◌, arith, sym, subst}
use Rattle.geo_slots.specs.Pages.{HaveRoom}
use Rattle.geo_slots.proofs.KeyLemmas.{room_push}
use Rattle.geo_slots.proofs.index.reserve.Goals as goal

-- the last page is one more, and none of its numbers has a key
pub loop-index-preserved : goal.loop-index-preserved
loop-index-preserved c =
    subst (λ pages. HaveRoom c.args.index.now.pages.items c.args.index.now.end pages (c.loop-index.index.end + 1))
    (sym c.in_ok-push_back.ensures.items)
    (room_push c.args.index.now.pages.items c.args.index.now.end c.loop-index.index.pages.items c.loop-index.index.end
    c.in_ok-page.page c.loop-index.invariant c.in_ok-page.ensures.full c.in_ok-page.ensures.none
    (omega (arith, c.loop-index-test.true, c.requires.small)))
