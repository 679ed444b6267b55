use Rattle.std.proofs.Common.{refl}
use Rattle.geo_family.proofs.LinkLemmas.{change_at-absent}
use Rattle.geo_family.proofs.links.set_link.Goals as goal

pub returns-in_default : goal.returns-in_default
returns-in_default c =
    rw (change_at-absent c.args.child (λ _. c.args.to) c.args.links.now.rows
    (rw c.in_default.is at c.get_mut.ensures.value)) refl
