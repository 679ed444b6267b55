use Rattle.std.proofs.Common.{ℕ, ◌∙◌, ap, subst}
use mathlib.Core.List.{IsPrefix}
use Rattle.geo_lane.specs.Ticket.{sent_by}
use Rattle.geo_lane.specs.LanePass.{LanePassView, queue_view}
use Rattle.geo_lane.proofs.Keeps.{merges, learns}
use Rattle.geo_lane.proofs.Sounds.{told_of, join_sound, join_begins, order}
use Rattle.geo_lane.proofs.lane.Lane.take_in.Goals as goal

pub absorb-requires-clause-rule : goal.absorb-requires-clause-rule
absorb-requires-clause-rule c = merges _ _ _ _ c.pass.invariant.1.live c.ended.invariant.1.live

pub learn_as-requires-clause-rule : goal.learn_as-requires-clause-rule
learn_as-requires-clause-rule c = learns _ _ (ap (λ v. v.live) c.absorb.ensures.rule ∙ c.pass.invariant.1.live)

-- the pass 0 knows what the ended pass put, and that all it took of that sender is of these
pub invariant_of-pass : goal.invariant_of-pass
invariant_of-pass c = let l = c.learn_as.ensures in (
  l.queue.0.2 ∙ (c.absorb.ensures.queue.2 ∙ c.pass.invariant.0),
  join_sound _ _ _ (queue_view c.pass.inside.pass) c.pass.invariant.1 (queue_view c.ended.inside.pass)
      (queue_view c.learn_as.new.pass) (l.queue.1 ∙ c.absorb.ensures.rule) (told_of _ _ l.queue.1 l.rule),
)

-- tickets of one sender are taken in the order in which it put them
pub returns-clause-begins : goal.returns-clause-begins
returns-clause-begins c = let l = c.learn_as.ensures in
    let begun = join_begins _ _ _ (queue_view c.pass.inside.pass) c.pass.invariant.1 (queue_view c.ended.inside.pass)
    (queue_view c.learn_as.new.pass) (l.queue.1 ∙ c.absorb.ensures.rule) (told_of _ _ l.queue.1 l.rule)
    (ap (λ p. p.sender) c.pass.view_is ∙ c.requires.first) in
    let numbered =
    subst (λ (n : ℕ). IsPrefix (sent_by n (queue_view c.pass.inside.pass).taken) (queue_view c.ended.inside.pass).put)
    c.ended.invariant.1.number begun in
    subst (λ (z : LanePassView × LanePassView). IsPrefix (sent_by z.0.sender z.1.taken) z.0.put)
    (λ i. (c.ended.view_is i, c.pass.view_is i)) numbered

pub returns-clause-order : goal.returns-clause-order
returns-clause-order c = let l = c.learn_as.ensures in
    order _ _ _ _ (join_sound _ _ _ (queue_view c.pass.inside.pass) c.pass.invariant.1 (queue_view c.ended.inside.pass)
    (queue_view c.learn_as.new.pass) (l.queue.1 ∙ c.absorb.ensures.rule) (told_of _ _ l.queue.1 l.rule))
