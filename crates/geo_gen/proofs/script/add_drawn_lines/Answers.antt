use Rattle.std.proofs.Common.{arith}
use Rattle.geo_gen.proofs.Drawn.{next_line}
use Rattle.geo_gen.proofs.script.add_drawn_lines.Goals as goal

-- the line takes the next three draws, and those behind the third are left for the other lines
pub loop-i-preserved : goal.loop-i-preserved
loop-i-preserved c = (
  c.in_ok-x.ensures.below,
  next_line _ c.loop-i.text c.add_drawn.new.text c.args.count c.loop-i.i c.loop-i.x c.in_ok-x.x (omega arith)
      c.in_ok-x.ensures.line c.in_ok-x.ensures.draw c.loop-i.invariant.1,
)
