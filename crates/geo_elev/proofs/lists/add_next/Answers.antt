use Rattle.std.proofs.Common.{ℕ, List, ap, sym, subst, ◌∙◌}
use Rattle.geo_elev.specs.Front.{with_key}
use Rattle.geo_elev.specs.Lists.{AreLists, all_waiting, one_at}
use Rattle.geo_elev.proofs.Kept.{put_next}
use Rattle.geo_elev.proofs.lists.add_next.Goals as goal

-- nothing comes behind, so all that waits may be taken next, and so may this
pub returns-clause-lists : goal.returns-clause-lists
returns-clause-lists c =
    let m = c.args.lists.now in
    subst (λ (ks : List ℕ). AreLists ks c.args.place.flush m.later.items c.args.bio)
    (sym (c.in_ok-add.ensures ∙ ap (λ (n : ℕ). with_key n m.front) c.key.ensures))
    (put_next m.front m.flush m.later.items m.last (one_at c.args.bio c.args.place) c.requires.lists
    c.ranges.bio.fits c.requires.below c.requires.joins).lists

pub returns-clause-put : goal.returns-clause-put
returns-clause-put c =
    let m = c.args.lists.now in
    ap (λ (ks : List ℕ). all_waiting ks c.args.place.flush m.later.items)
    (c.in_ok-add.ensures ∙ ap (λ (n : ℕ). with_key n m.front) c.key.ensures)
    ∙ (put_next m.front m.flush m.later.items m.last (one_at c.args.bio c.args.place) c.requires.lists
    c.ranges.bio.fits c.requires.below c.requires.joins).put
