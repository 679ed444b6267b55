use Rattle.geo_class.proofs.StripeLemmas.{strips_more}
use Rattle.geo_class.proofs.stripe.stripe_map.push_strips.Goals as goal

-- the part of the range in this strip is added, and those in the strips behind it are left
pub loop-number-preserved : goal.loop-number-preserved
loop-number-preserved c =
    strips_more c.args.span.offset c.args.span.len c.args.count c.args.stripe c.args.first c.args.end
    c.loop-number.number
    c.args.list.now.items c.loop-number.list.items c.push_part.new.self.items c.loop-number.list.spare
    c.push_part.new.self.spare
    c.loop-number-test.true c.loop-number.invariant c.push_part.ensures.items c.push_part.ensures.spare
