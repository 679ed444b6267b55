use Rattle.std.proofs.Common.{refl}
use Rattle.geo_family.proofs.LinkLemmas.{with_value-change, change_at-absent}
use Rattle.geo_family.proofs.links.set_before.Goals as goal

-- Here and below: numbers rise, so one link at most has the number; where none has, nothing changes
pub returns-in-Some-get_mut : goal.returns-in-Some-get_mut
returns-in-Some-get_mut c =
    rw (
      c.in-Some.is,
      with_value-change c.in-Some.number (λ l. record l { before = c.args.to }) c.in-Some-get_mut.link.now
          (record c.in-Some-get_mut.link.now { before = c.args.to }) refl 1 c.args.links.now.next
          c.args.links.now.rows c.get_mut.ensures.rising
          (rw c.in-Some-get_mut.is at c.get_mut.ensures.value),
    ) refl

pub returns-in_default-get_mut : goal.returns-in_default-get_mut
returns-in_default-get_mut c =
    rw (
      c.in-Some.is,
      change_at-absent c.in-Some.number (λ l. record l { before = c.args.to }) c.args.links.now.rows
          (rw c.in_default-get_mut.is at c.get_mut.ensures.value),
    ) refl
