use Rattle.std.proofs.Common.{◌≡◌, ◌+◌, ◌<◌, ◌≤◌, length, take, arith, ◌∙◌, length-take-le}
use Rattle.geo_serving.proofs.Reading.{cuts_short}
use Rattle.geo_serving.proofs.streams.read_full.Goals as goal

-- what comes next was read
pub loop-done-preserved : goal.loop-done-preserved
loop-done-preserved g c = record {
  len = c.read_on.ensures.len ∙ c.loop-done.invariant.len;
  inside = omega (arith, c.in-Ok.ensures.on.inside, c.read_on.ensures.len);
  gives = c.in-Ok.ensures.on.grown (g.S.Source.view c.args.source.now) c.loop-done.invariant.gives;
  told = c.in-Ok.ensures.breaks ∙ c.loop-done.invariant.told;
}

-- only what was read before was read
pub returns-in-Err-clause-reads : goal.returns-in-Err-clause-reads
returns-in-Err-clause-reads g c =
    cuts_short c.in-Err.halt (length c.args.out.now) (g.S.Source.view c.args.source.now)
    (g.S.Source.view c.loop-done.source) (g.S.Source.view c.read_on.new.source) (take c.loop-done.done c.loop-done.out)
    (omega (arith, length-take-le c.loop-done.done c.loop-done.out c.loop-done.invariant.inside, c.loop-done.invariant.len))
    c.loop-done.invariant.told c.loop-done.invariant.gives c.in-Err.ensures.breaks
