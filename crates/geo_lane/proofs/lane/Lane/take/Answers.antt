use Rattle.std.proofs.Common.{◌∙◌, ap}
use Rattle.geo_lane.proofs.Keeps.{takes, learns}
use Rattle.geo_lane.proofs.Sounds.{take_sound, order}
use Rattle.geo_lane.proofs.lane.Lane.take.Goals as goal

-- the pass 0 alone takes
pub pop_as-requires-clause-rule : goal.pop_as-requires-clause-rule
pop_as-requires-clause-rule g c = let s = c.pass.invariant.1 in
    (takes _ _ s.live (s.number ∙ (ap (λ p. p.sender) c.pass.view_is ∙ c.requires.first)), learns _ _ s.live)

-- a ticket that was taken is the next one of its sender
pub invariant_of-pass : goal.invariant_of-pass
invariant_of-pass g c =
    (c.pop_as.ensures.queue.2 ∙ c.pass.invariant.0, take_sound _ _ _ _ c.pass.invariant.1 _ _ c.pop_as.ensures.rule)

pub returns-clause-order : goal.returns-clause-order
returns-clause-order g c = order _ _ _ _ (take_sound _ _ _ _ c.pass.invariant.1 _ _ c.pop_as.ensures.rule)
