use Rattle.std.proofs.Common.{rules}
use Rattle.geo_elev.proofs.Fronts.{least_left, top_taken}
use Rattle.geo_elev.proofs.front.take_top.Goals as goal

-- what was taken is the top, which is the key
pub returns-clause-taken : goal.returns-clause-taken
returns-clause-taken c taken =
    top_taken c.pop.new.self.data.items c.in-Some.next c.args.key c.if-next-key.true c.args.heap.now.data.items
    c.pop.result c.in-Some.ensures.item c.pop.ensures.top c.pop.ensures.permutation (search rules)

pub returns-clause-least : goal.returns-clause-least
returns-clause-least c taken =
    least_left c.pop.new.self.data.items c.in-Some.next c.args.key c.if-next-key.true c.args.heap.now.data.items
    c.pop.result c.in-Some.ensures.item c.pop.ensures.top c.requires c.pop.ensures.below_top (search rules)
