use Rattle.std.proofs.Common.{sym, arith, ◌∙◌}
use Rattle.geo_life.proofs.Dying.{dying_here, dying_pass, dying_end}
use Rattle.geo_life.proofs.orphans.next_dying.Goals as goal

-- a consumer that isn't one of DEV doesn't die, so those left to die are the same
pub loop-id-preserved : goal.loop-id-preserved
loop-id-preserved g c = record {
  left =
      rw c.number-rest.ensures
      (dying_pass c.args.topo.now.topology c.args.prov c.loop-id.rest
      _ c.in-Some.ensures.next.left
      (sym (c.is_of_dev.ensures c.in-Some.id) ∙ c.if-is_of_dev.false)
      ∙ c.loop-id.invariant.left);
  past = omega (arith, c.loop-id.invariant.past, c.in-Some.ensures.next.past, c.number-rest.ensures);
}

pub returns-then-is_of_dev-clause-next : goal.returns-then-is_of_dev-clause-next
returns-then-is_of_dev-clause-next g c =
    sym c.loop-id.invariant.left
    ∙ dying_here c.args.topo.now.topology c.args.prov c.loop-id.rest
    _ c.in-Some.ensures.next.left
    (sym (c.is_of_dev.ensures c.in-Some.id) ∙ c.if-is_of_dev.true)

pub returns-clause-next : goal.returns-clause-next
returns-clause-next g c =
    sym c.loop-id.invariant.left
    ∙ dying_end c.args.topo.now.topology c.args.prov c.loop-id.rest c.in_default.ensures.next
