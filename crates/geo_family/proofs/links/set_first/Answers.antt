use Rattle.std.proofs.Common.{refl, sym, ◌∙◌}
use Rattle.geo_family.proofs.LinkLemmas.{with_value-change, change_at-absent, is_none}
use Rattle.geo_family.proofs.links.set_first.Goals as goal

-- Here and below: no child stands before, so the parent's ends change, if there are any
pub returns-in-Some : goal.returns-in-Some
returns-in-Some c =
    rw (
      is_none c.args.before (sym c.is_some.ensures ∙ c.if-is_some.false),
      with_value-change c.args.parent (λ e. record e { first = c.args.to }) c.in-Some.end.now
          (record c.in-Some.end.now { first = c.args.to }) refl 1 c.args.ends.now.next c.args.ends.now.rows
          c.get_mut.ensures.rising (rw c.in-Some.is at c.get_mut.ensures.value),
    ) refl

pub returns-in_default : goal.returns-in_default
returns-in_default c =
    rw (
      is_none c.args.before (sym c.is_some.ensures ∙ c.if-is_some.false),
      change_at-absent c.args.parent (λ e. record e { first = c.args.to }) c.args.ends.now.rows
          (rw c.in_default.is at c.get_mut.ensures.value),
    ) refl
