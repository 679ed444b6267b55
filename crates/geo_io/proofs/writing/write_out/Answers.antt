use Rattle.std.proofs.Common.{arith, ◌∙◌}
use Rattle.geo_io.proofs.writing.write_out.Goals as goal

-- the sink took what comes next, and no more than is left
pub loop-done-preserved : goal.loop-done-preserved
loop-done-preserved g c = record {
  grown = c.in-Ok.ensures.grown (g.K.Sink.view c.args.sink.now) c.loop-done.invariant.grown;
  inside = omega (arith, c.in-Ok.ensures.inside);
  told = c.in-Ok.ensures.told ∙ c.loop-done.invariant.told;
}
