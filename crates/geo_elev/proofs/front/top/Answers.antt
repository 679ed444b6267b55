use Rattle.geo_elev.proofs.Fronts.{is_top}
use Rattle.geo_elev.proofs.front.top.Goals as goal

-- the greatest of the heap's order is the least key
pub returns-in-Some : goal.returns-in-Some
returns-in-Some c =
    is_top c.args.heap.now.data.items c.in-Some.key c.in-Some.ensures.item (c.in-Some.ensures.greatest c.requires)
