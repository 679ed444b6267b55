use Rattle.std.proofs.Common.{sym, ◌∙◌, true, false}
use Rattle.geo_moves.proofs.Walking.{use_begin, use_end, use_step}
use Rattle.geo_moves.proofs.uses.is_in_use.Goals as goal

pub loop-id-init : goal.loop-id-init
loop-id-init c = use_begin c.args.topo.now c.args.geom

-- this provider has no count, so one of those behind it has, or none
pub loop-id-preserved : goal.loop-id-preserved
loop-id-preserved c =
    rw c.number-from.ensures
    (sym (use_step c.args.topo.now c.args.geom c.requires.counted c.loop-id.from _ _ c.in-Some.ensures.next
    c.in-Some.ensures.have true (sym c.is_zero.ensures ∙ c.if-not-is_zero.false)) ∙ c.loop-id.invariant)

-- this provider has a count, and one is enough
pub returns-then-not-is_zero : goal.returns-then-not-is_zero
returns-then-not-is_zero c =
    sym (use_step c.args.topo.now c.args.geom c.requires.counted c.loop-id.from _ _ c.in-Some.ensures.next
    c.in-Some.ensures.have false (sym c.is_zero.ensures ∙ c.if-not-is_zero.true)) ∙ c.loop-id.invariant

pub returns : goal.returns
returns c = use_end c.args.topo.now c.args.geom c.loop-id.from c.in_default.ensures.next ∙ c.loop-id.invariant
