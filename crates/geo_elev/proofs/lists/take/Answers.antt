use Rattle.std.proofs.Common.{ℕ, List, ap, sym, subst, ◌∙◌}
use Rattle.geo_elev.specs.Lists.{AreLists, all_waiting}
use Rattle.geo_elev.proofs.Kept.{rest_rises, rest_waits, take_lists, take_waits}
use Rattle.geo_elev.proofs.lists.take.Goals as goal

pub returns-then-not-take-clause-lists : goal.returns-then-not-take-clause-lists
returns-then-not-take-clause-lists c =
    let m = c.args.lists.now in
    subst (λ (ks : List ℕ). AreLists ks m.flush m.later.items m.last)
    (sym (c.take.ensures.same c.if-not-take.true)) c.requires

pub returns-then-not-take-clause-taken : goal.returns-then-not-take-clause-taken
returns-then-not-take-clause-taken c =
    let m = c.args.lists.now in
    ap (λ (ks : List ℕ). all_waiting ks m.flush m.later.items) (c.take.ensures.same c.if-not-take.true)

-- the only one that could be taken next is gone, so what came behind is all that waits
pub refill-requires-clause-rises : goal.refill-requires-clause-rises
refill-requires-clause-rises c =
    let m = c.args.lists.now in
    rest_rises m.front c.take.new.self m.flush m.later.items m.last c.args.bio c.args.first c.requires
    c.ranges.bio.fits c.key.ensures (c.take.ensures.taken c.if-not-take.false)
    (sym c.is_empty.ensures ∙ c.if-is_empty.true)

pub returns-in_ok-refill-clause-taken : goal.returns-in_ok-refill-clause-taken
returns-in_ok-refill-clause-taken c =
    let m = c.args.lists.now in
    c.in_ok-refill.ensures.same
    ∙ rest_waits m.front c.take.new.self m.flush m.later.items m.last c.args.bio c.args.first c.requires
    c.ranges.bio.fits c.key.ensures (c.take.ensures.taken c.if-not-take.false)
    (sym c.is_empty.ensures ∙ c.if-is_empty.true)

-- another may be taken next still, so nothing of what comes behind need be moved
pub returns-else-is_empty-clause-lists : goal.returns-else-is_empty-clause-lists
returns-else-is_empty-clause-lists c =
    let m = c.args.lists.now in
    take_lists m.front c.take.new.self m.flush m.later.items m.last c.args.bio c.args.first c.requires
    c.ranges.bio.fits c.key.ensures (c.take.ensures.taken c.if-not-take.false)
    (sym c.is_empty.ensures ∙ c.if-is_empty.false)

pub returns-else-is_empty-clause-taken : goal.returns-else-is_empty-clause-taken
returns-else-is_empty-clause-taken c =
    let m = c.args.lists.now in
    take_waits m.front c.take.new.self m.flush m.later.items m.last c.args.bio c.args.first c.requires
    c.ranges.bio.fits c.key.ensures (c.take.ensures.taken c.if-not-take.false)
