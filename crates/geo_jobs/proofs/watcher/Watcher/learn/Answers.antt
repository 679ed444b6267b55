use Rattle.std.proofs.Common.{rules, ◌∙◌, ap, sym}
use Rattle.geo_jobs.proofs.Meeting.{learns}
use Rattle.geo_jobs.proofs.watcher.Watcher.learn.Goals as goal

pub join_seat-requires : goal.join_seat-requires
join_seat-requires c = (search rules, search rules, search rules, search rules, learns _ _ _ _ _)

-- a note changes only what the watcher was told of
pub invariant_of-self : goal.invariant_of-self
invariant_of-self c = let i = c.self.invariant.3.1 in let j = c.join_seat.ensures.2 in (
  search rules,
  search rules,
  search rules,
  (
    c.self.invariant.3.0,
    record {
      role = ap (λ m. m.0.role) j ∙ i.role;
      of = ap (λ m. m.0.of) j ∙ i.of;
      low = i.low;
      list = i.list;
      slot = ap (λ m. m.1) j ∙ i.slot;
      at = i.at ∙ sym (ap (λ m. m.0.seen) j);
      its = i.its;
    },
  ),
)
