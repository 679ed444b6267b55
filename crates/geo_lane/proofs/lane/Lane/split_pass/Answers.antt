use Rattle.std.proofs.Common.{◌∙◌, ap}
use Rattle.geo_lane.proofs.Keeps.{forks}
use Rattle.geo_lane.proofs.Sounds.{split_sound}
use Rattle.geo_lane.proofs.lane.Lane.split_pass.Goals as goal

-- the pass 0 alone makes passes
pub another-other-requires-clause-rule : goal.another-other-requires-clause-rule
another-other-requires-clause-rule g c = let s = c.pass.invariant.1 in
    forks _ _ s.live (s.number ∙ (ap (λ p. p.sender) c.pass.view_is ∙ c.requires.first))

-- one pass more was made, and the pass 0 knows how many
pub invariant_of-pass : goal.invariant_of-pass
invariant_of-pass g c = (
  c.another-other.ensures.queue.0.2 ∙ c.pass.invariant.0,
  split_sound _ _ _ _ c.pass.invariant.1 _ c.another-other.ensures.rule.0,
)
