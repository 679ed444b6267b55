use Rattle.std.proofs.Common.{sym, ◌∙◌}
use Rattle.geo_elev.proofs.Kept.{joins_front, joins_later}
use Rattle.geo_elev.proofs.lists.joins.Goals as goal

-- something comes behind only where a FLUSH waits, and then no more may be taken next
pub returns-then-not-none_later : goal.returns-then-not-none_later
returns-then-not-none_later c =
    let m = c.args.lists.now in
    joins_later m.front m.flush m.later.items m.last c.args.flush c.requires
    (sym c.none_later.ensures ∙ c.if-not-none_later.true)

-- nothing comes behind: one more may be taken next where neither it nor what waits is a FLUSH
pub returns : goal.returns
returns c =
    let m = c.args.lists.now in
    c.neither.ensures
    ∙ joins_front m.front m.flush m.later.items c.args.flush (sym c.none_later.ensures ∙ c.if-not-none_later.false)
    (sym c.is_empty.ensures ∙ c.if-is_empty.false)
