use Rattle.std.proofs.Common.{arith, ◌+◌, ◌-◌, ◌*◌, get_or}
use Rattle.geo_script.proofs.NumberLemmas.{value_fits, value_on, value_too_large, value_end}
use Rattle.geo_script.proofs.number.value_of.Goals as goal

-- the value so far with this digit fits in 64 bits, and goes on with the digits behind it
pub loop-b-preserved : goal.loop-b-preserved
loop-b-preserved c = record {
  fits = value_fits (10 * c.loop-b.value + (get_or c.args.digits.now c.loop-b.b-index 0 - 48)) c.in-Some.more
      c.in-Some.ensures;
  whole = value_on c.args.digits.now c.loop-b.b-index c.loop-b.value c.in-Some.more _ (omega arith)
      c.in-Some.ensures c.loop-b.invariant.whole;
}

-- with this digit the value is too large, and more digits make it no smaller
pub returns-in-None : goal.returns-in-None
returns-in-None c =
    value_too_large c.args.digits.now c.loop-b.b-index c.loop-b.value _ (omega arith) c.in-None.ensures
    c.loop-b.invariant.whole

pub returns : goal.returns
returns c = value_end c.args.digits.now c.loop-b.b-index c.loop-b.value _ c.loop-b-test.false
    c.loop-b.invariant.fits c.loop-b.invariant.whole
