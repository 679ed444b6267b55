use Rattle.std.proofs.Common.{sym, ◌∙◌}
use Rattle.std.proofs.lemmas.Result.{on_ok_weaker}
use Rattle.geo_elev.specs.Lists.{one_at}
use Rattle.geo_elev.proofs.Kept.{put_later}
use Rattle.geo_elev.proofs.lists.add.Goals as goal

-- it can't be taken next, so it stands behind, where its number is the greatest
pub returns-else-joins-clause-lists : goal.returns-else-joins-clause-lists
returns-else-joins-clause-lists c =
    let m = c.args.lists.now in
    on_ok_weaker c.add_later.result (λ is.
    (put_later m.front m.flush m.later.items c.add_later.new.later.items m.last (one_at c.args.bio c.args.place)
    c.requires.lists c.ranges.bio.fits c.requires.below (sym c.joins.ensures ∙ c.if-joins.false) is).lists)
    c.add_later.ensures
