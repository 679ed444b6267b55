use Rattle.std.proofs.Common.{ℕ, Some, None, ap, ◌∙◌}
use Rattle.geo_elev.proofs.Kept.{kept_ahead, kept_least}
use Rattle.geo_elev.proofs.lists.next.Goals as goal

-- keys stand by places, so the least from the head on is the next bio ahead of it
pub returns-in-Some : goal.returns-in-Some
returns-in-Some c =
    let m = c.args.lists.now in
    ap (λ (n : ℕ). Some n) c.bio_in.ensures
    ∙ kept_ahead m.front m.flush m.later.items m.last c.requires c.args.head c.in-Some.key
    c.in-Some.ensures

-- no place is ahead of the head, so the least of all is next
pub returns-in-Some-least : goal.returns-in-Some-least
returns-in-Some-least c =
    let m = c.args.lists.now in
    ap (λ (n : ℕ). Some n) c.bio_in-in-Some-least.ensures
    ∙ kept_least m.front m.flush m.later.items m.last c.requires c.args.head (Some c.in-Some-least.key)
    c.in_default.ensures
    c.in-Some-least.ensures

pub returns-in-None : goal.returns-in-None
returns-in-None c =
    let m = c.args.lists.now in
    kept_least m.front m.flush m.later.items m.last c.requires c.args.head None
    c.in_default.ensures
    c.in-None.ensures
