use Rattle.std.proofs.Common.{arith}
use Rattle.geo_model.specs.Names.{logical_name}
use Rattle.geo_taste.proofs.TableLemmas.{named_begin, named_end, named_more, named_none, named_place}
use Rattle.geo_taste.proofs.parts.partition_parts.Goals as goal

pub loop-part-init : goal.loop-part-init
loop-part-init c =
    rw c.new-parts.ensures.items (named_begin (logical_name c.args.below.now) (λ s. s.count) c.args.chain.now)

-- the place is one of the chain's, which has 32 links at most
pub push_partition-requires : goal.push_partition-requires
push_partition-requires c =
    let inside = named_place c.loop-part.part-index c.loop-part.invariant
    (omega (arith, c.told-chain, c.loop-part-test.true)) in
    omega (arith, c.told-chain, inside)

pub returns-then-not-branch-clause-named : goal.returns-then-not-branch-clause-named
returns-then-not-branch-clause-named c =
    named_none c.loop-part.part-index c.loop-part.invariant (omega (arith, c.told-chain, c.loop-part-test.true))
    c.push_partition.new.parts.items c.in_ok-push_partition.field-0 c.in_ok-push_partition.ensures c.if-not-branch.true

pub loop-part-preserved : goal.loop-part-preserved
loop-part-preserved c =
    named_more c.loop-part.part-index c.loop-part.invariant (omega (arith, c.told-chain, c.loop-part-test.true))
    c.push_partition.new.parts.items c.in_ok-push_partition.field-0 c.in_ok-push_partition.ensures c.if-not-branch.false

pub returns-clause-named : goal.returns-clause-named
returns-clause-named c =
    named_end c.loop-part.part-index c.loop-part.invariant (omega (arith, c.told-chain, c.loop-part-test.false))
