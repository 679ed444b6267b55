use Rattle.std.proofs.Common.{ℕ, ◌<◌, length, get_or, arith, sym}
use Rattle.std.proofs.lemmas.Grind.{get_or_default_zero}
use Rattle.std.proofs.lemmas.List.Edits.{map_over_more}
use Rattle.geo_disk.specs.Counts.{counted_on}
use Rattle.geo_worn.proofs.wear.wear_all.Goals as goal

-- one more sector is passed
pub loop-written-preserved : goal.loop-written-preserved
loop-written-preserved c =
    let place : ℕ = c.loop-written.written-index in
    let here : ℕ = get_or c.loop-written.writes place 0 in
    let inside : place < length c.loop-written.writes = omega (
      arith,
      c.loop-written-test.true,
      c.loop-written.auto.writes,
    ) in
    let inside_first : place < length c.args.writes.now = omega (
      arith,
      c.loop-written-test.true,
      c.loop-written.auto.writes,
    ) in
    rw c.one_more.ensures
    (map_over_more counted_on c.args.writes.now c.loop-written.writes place here inside_first c.loop-written.invariant
    (sym (get_or_default_zero c.loop-written.writes place here inside)))
