use Rattle.std.proofs.Common.{◌∙◌, ap, sym, arith, length}
use Rattle.geo_lane.proofs.Keeps.{puts, learns}
use Rattle.geo_lane.proofs.Moments.{alone_holds}
use Rattle.geo_lane.proofs.Sounds.{put_sound, order}
use Rattle.geo_lane.proofs.lane.Lane.put.Goals as goal

-- the ticket has the pass's number and the number of its next ticket
pub push_as-requires-clause-rule : goal.push_as-requires-clause-rule
push_as-requires-clause-rule g c = let s = c.pass.invariant.1 in (
  puts _ _ _ _ s.live (c.requires.sender ∙ sym (s.number ∙ ap (λ p. p.sender) c.pass.view_is)) (c.requires.number
      ∙ sym (ap (λ p. length p.put) c.pass.view_is)),
  learns _ _ s.live,
)

-- the pass has put one ticket more, and what it knows of others is as before
pub invariant_of-pass : goal.invariant_of-pass
invariant_of-pass g c =
    (c.push_as.ensures.queue.2 ∙ c.pass.invariant.0, put_sound _ _ _ _ c.pass.invariant.1 _ _ c.in-Ok.ensures.rule)

pub returns-in-Ok-clause-order : goal.returns-in-Ok-clause-order
returns-in-Ok-clause-order g c = order _ _ _ _ (put_sound _ _ _ _ c.pass.invariant.1 _ _ c.in-Ok.ensures.rule)

-- no other pass puts or takes, so all that fills the lane was put by this one and not taken
pub returns-in-Err-clause-alone : goal.returns-in-Err-clause-alone
returns-in-Err-clause-alone g c = λ zeroth alone.
    let s = c.pass.invariant.1 in
    let held = alone_holds _ _ c.in-Err.ensures.rule.2 (s.number ∙ ap (λ p. p.sender) c.pass.view_is
    ∙ zeroth) (s.split_is ∙ ap (λ p. p.split) c.pass.view_is ∙ alone) in
    omega (
      arith,
      held,
      c.self.invariant,
      ap (λ p. length p.put) c.pass.view_is,
      ap (λ p. length p.taken) c.pass.view_is,
    )
