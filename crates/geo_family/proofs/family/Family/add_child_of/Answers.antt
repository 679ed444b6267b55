use Rattle.std.proofs.Common.{Some, None, refl}
use Rattle.geo_family.proofs.ViewLemmas.{value_at-push, with_value-push}
use Rattle.geo_family.proofs.family.Family.add_child_of.Goals as goal

-- the child is there and free, since it was just added
pub link-requires-clause-free : goal.link-requires-clause-free
link-requires-clause-free c =
    rw (c.add_child-child.ensures.number, c.add_child-child.ensures.added)
    (value_at-push c.args.self.now.next_child None 1 c.args.self.now.children c.add_child-child.ensures.rising)

-- numbers rise, so the new child alone gets the parent, and it was the last of the rows
pub returns-clause-added : goal.returns-clause-added
returns-clause-added c =
    rw (c.link.ensures, c.add_child-child.ensures.number, c.add_child-child.ensures.added)
    (rw (with_value-push c.args.self.now.next_child None (Some c.args.parent) 1 c.args.self.now.children
    c.add_child-child.ensures.rising) refl)
