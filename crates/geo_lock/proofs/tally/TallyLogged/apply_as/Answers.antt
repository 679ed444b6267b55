use Rattle.std.proofs.Common.{rules}
use Rattle.geo_lock.proofs.TallyLemmas.{pushed}
use Rattle.geo_lock.proofs.tally.TallyLogged.apply_as.Goals as goal

-- the entry has the sum so far and the number together, and there was a place for it
pub invariant_of-self : goal.invariant_of-self
invariant_of-self c = rw c.in-Ok.ensures.items (pushed _ _ _ _ _ c.self.invariant (search rules) (search rules))

pub returns-in-Ok-clause-lawful : goal.returns-in-Ok-clause-lawful
returns-in-Ok-clause-lawful c =
    rw c.in-Ok.ensures.items
    ((pushed c.self.inside.sum c.args.seat c.args.step c.self.inside.log.items c.in-Some.sum c.self.invariant
    (search rules) (search rules)).1)
