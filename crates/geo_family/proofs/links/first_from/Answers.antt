use Rattle.std.proofs.Common.{arith, sym, Some, None}
use Rattle.geo_family.specs.Links.{part_at, parent_of, after_of}
use Rattle.geo_family.proofs.WalkLemmas.{way_up_goes_on, way_up_falls, way_up_ends, way_up_none, first_child_is}
use Rattle.geo_family.proofs.links.first_from.Goals as goal

pub loop-at-init : goal.loop-at-init
loop-at-init c = c.start-at.ensures.way

-- the walk is at a child that isn't below the number, and none such comes before it
pub returns-then-number-child : goal.returns-then-number-child
returns-then-number-child c =
    sym (first_child_is c.args.parent c.args.number 1 c.args.links.now.next c.args.links.now.rows
    (Some c.in-Some.child) c.start-at.ensures.rising
    (way_up_ends (part_at parent_of c.args.links.now.rows) c.args.parent c.args.number c.loop-at.at c.in-Some.child
    c.in-Some.is c.if-number-child.true c.loop-at.invariant))

-- the next sibling has a greater number, so it is nearer to the number, or past it
pub loop-at-smaller : goal.loop-at-smaller
loop-at-smaller c =
    rw c.after_at-at.ensures
    (way_up_falls (part_at parent_of c.args.links.now.rows) c.args.parent c.args.number c.loop-at.at
    c.in-Some.child c.in-Some.is (omega arith) c.loop-at.invariant (part_at after_of c.args.links.now.rows)
    c.requires.afters)

-- the child is below the number, so those that aren't come behind it, where the next sibling is the least
pub loop-at-preserved : goal.loop-at-preserved
loop-at-preserved c =
    rw c.after_at-at.ensures
    (way_up_goes_on (part_at parent_of c.args.links.now.rows) c.args.parent c.args.number c.loop-at.at
    c.in-Some.child c.in-Some.is (omega arith) c.loop-at.invariant (part_at after_of c.args.links.now.rows)
    c.requires.afters)

-- the walk is at its end, so no child that isn't below the number is left
pub returns : goal.returns
returns c =
    sym (first_child_is c.args.parent c.args.number 1 c.args.links.now.next c.args.links.now.rows None
    c.start-at.ensures.rising
    (way_up_none (part_at parent_of c.args.links.now.rows) c.args.parent c.args.number c.loop-at.at c.in_default.is
    c.loop-at.invariant))
