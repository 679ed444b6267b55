use Rattle.std.proofs.Common.{arith}
use Rattle.geo_model.specs.Names.{slice_name}
use Rattle.geo_taste.proofs.TableLemmas.{named_begin, named_end, named_more, named_none, named_place}
use Rattle.geo_taste.proofs.parts.slice_parts.Goals as goal

pub loop-slice-init : goal.loop-slice-init
loop-slice-init c =
    rw c.new-parts.ensures.items (named_begin (slice_name c.args.below.now) (λ s. s.count) c.args.slices.now)

-- the place is one of the table's, which has four entries
pub push_slice-requires : goal.push_slice-requires
push_slice-requires c =
    let inside = named_place c.loop-slice.slice-index c.loop-slice.invariant
    (omega (arith, c.told-slices, c.loop-slice-test.true)) in
    omega (arith, c.told-slices, inside)

pub returns-then-not-branch-clause-named : goal.returns-then-not-branch-clause-named
returns-then-not-branch-clause-named c =
    named_none c.loop-slice.slice-index c.loop-slice.invariant (omega (arith, c.told-slices, c.loop-slice-test.true))
    c.push_slice.new.parts.items c.in_ok-push_slice.field-0 c.in_ok-push_slice.ensures c.if-not-branch.true

pub loop-slice-preserved : goal.loop-slice-preserved
loop-slice-preserved c =
    named_more c.loop-slice.slice-index c.loop-slice.invariant (omega (arith, c.told-slices, c.loop-slice-test.true))
    c.push_slice.new.parts.items c.in_ok-push_slice.field-0 c.in_ok-push_slice.ensures c.if-not-branch.false

pub returns-clause-named : goal.returns-clause-named
returns-clause-named c =
    named_end c.loop-slice.slice-index c.loop-slice.invariant (omega (arith, c.told-slices, c.loop-slice-test.false))
