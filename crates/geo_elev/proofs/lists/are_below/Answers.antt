use Rattle.std.proofs.Common.{Bool, ◌&&◌, ap, sym, ◌∙◌}
use Rattle.geo_elev.specs.Lists.{are_below, waiting_in}
use Rattle.geo_elev.proofs.Kept.{both_below, last_below}
use Rattle.geo_elev.proofs.lists.are_below.Goals as goal

-- no number is greater than the last that was put in
pub returns-then-lists-bio : goal.returns-then-lists-bio
returns-then-lists-bio c =
    let m = c.args.lists.now in
    last_below m.front m.flush m.later.items m.last c.args.bio c.requires c.if-lists-bio.true

-- Else: all that may be taken next, and all behind it, are asked
pub returns-then-are_below : goal.returns-then-are_below
returns-then-are_below c =
    let m = c.args.lists.now in
    c.later_below.ensures
    ∙ sym (both_below m.front m.flush m.later.items c.args.bio
    ∙ ap (λ (b : Bool). b && are_below c.args.bio (waiting_in m.later.items))
    (sym c.are_below.ensures ∙ c.if-are_below.true))

pub returns-else-are_below : goal.returns-else-are_below
returns-else-are_below c =
    let m = c.args.lists.now in
    sym (both_below m.front m.flush m.later.items c.args.bio
    ∙ ap (λ (b : Bool). b && are_below c.args.bio (waiting_in m.later.items))
    (sym c.are_below.ensures ∙ c.if-are_below.false))
