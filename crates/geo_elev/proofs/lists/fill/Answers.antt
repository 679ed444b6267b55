use Rattle.std.proofs.Common.{◌≡◌, Bool, sym, subst}
use Rattle.geo_headline.specs.Sweep.{candidates}
use Rattle.geo_elev.specs.Lists.{all_waiting, listed}
use Rattle.geo_elev.proofs.Kept.{both_ok, keys_next}
use Rattle.geo_elev.proofs.lists.fill.Goals as goal

-- a FLUSH or nothing comes next behind, so what has a key is all that may be taken next
pub returns-clause-next : goal.returns-clause-next
returns-clause-next c =
    let keys = c.fill_on.new.front in
    let items = c.fill_on.new.later.items in
    both_ok c.fill_on.result c.fill_on.ensures.some c.fill_on.ensures.end (λ some end.
    subst (λ (b : Bool). candidates (all_waiting keys b items) ≡ listed b keys) (sym c.if-place.false)
    (keys_next keys items some end))
