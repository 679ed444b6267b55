use Rattle.std.specs.Prelude.{Some, None}
use Rattle.std.proofs.Common.{refl}
use Rattle.geo_slots.proofs.RowLemmas.{value_at-set}
use Rattle.geo_handles.proofs.NumberLemmas.{ready-set, relinked}
use Rattle.geo_handles.proofs.InsideLemmas.{inside-noted, noted-there}
use Rattle.geo_handles.proofs.handles.Handles.set_ready.Goals as goal

-- the number was unlinked just before, so it has no parent
pub link-requires-clause-free : goal.link-requires-clause-free
link-requires-clause-free c =
    rw (c.unlink.ensures, c.number-number.ensures)
    (value_at-set c.args.id None c.self.inside.inside.ready.children
    (noted-there c.self.inside.inside c.self.invariant c.args.id (rw (← c.self.view_is) at c.requires)))

-- each handle has its number among the notes still, whether that is linked or not
pub invariant_of-self : goal.invariant_of-self
invariant_of-self c =
    inside-noted c.self.inside.inside _ c.self.invariant refl refl refl refl c.args.id (Some 1)
    (noted-there c.self.inside.inside c.self.invariant c.args.id (rw (← c.self.view_is) at c.requires))
    (relinked c.self.inside.inside.ready c.unlink.new.self c.link.new.self c.number-number.result c.args.id
    c.unlink.ensures c.link.ensures c.number-number.ensures)

pub invariant_of-self-else-ready : goal.invariant_of-self-else-ready
invariant_of-self-else-ready c =
    inside-noted c.self.inside.inside _ c.self.invariant refl refl refl refl c.args.id None
    (noted-there c.self.inside.inside c.self.invariant c.args.id (rw (← c.self.view_is) at c.requires))
    (rw (c.unlink.ensures, c.number-number.ensures) refl)

-- Either way: a number is noted just where it is linked, and what was done last counts
pub returns-then-ready : goal.returns-then-ready
returns-then-ready c =
    rw (
      ← c.self.view_is,
      relinked c.self.inside.inside.ready c.unlink.new.self c.link.new.self c.number-number.result c.args.id
          c.unlink.ensures c.link.ensures c.number-number.ensures,
      ready-set c.args.id (Some 1) c.self.inside.inside.ready.children,
      c.if-ready.true,
    ) refl

pub returns-else-ready : goal.returns-else-ready
returns-else-ready c =
    rw (
      ← c.self.view_is,
      c.unlink.ensures,
      c.number-number.ensures,
      ready-set c.args.id None
          c.self.inside.inside.ready.children,
      c.if-ready.false,
    ) refl
