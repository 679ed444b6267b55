use Rattle.geo_class.proofs.StripeLemmas.{StripsSoFar}
use Rattle.geo_class.proofs.stripe.stripe_map.push_strips.Given as goal

-- the parts so far, with those in the strips that are left, are all parts; each that is left has room
abbrev pub invariant-loop-number : goal.invariant-loop-number
invariant-loop-number l =
    StripsSoFar l.span.offset l.span.len l.count l.stripe l.first l.end l.number l.fn.list.items l.list.items
    l.list.spare
