use Rattle.geo_slots.proofs.KeyLemmas.{page_got}
use Rattle.geo_slots.proofs.index.page_there.Goals as goal

pub returns-in-Some : goal.returns-in-Some
returns-in-Some c =
    page_got c.args.index.now.pages.items c.args.index.now.end c.args.at c.args.page c.in-Some.field-0.now c.requires
    c.in-Some.ensures.item.3.0 c.in-Some.ensures.lookup c.if-number-page.true
