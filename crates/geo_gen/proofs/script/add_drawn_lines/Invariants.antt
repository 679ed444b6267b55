use Rattle.std.proofs.Common.{◌≡◌, ◌++◌, ◌<◌, ◌*◌, ◌-◌}
use Rattle.geo_model.specs.Generator.{draws, drawn_lines}
use Rattle.geo_gen.proofs.script.add_drawn_lines.Given as goal

-- the text so far, with the lines of the draws that are left, is that of all lines
abbrev pub invariant-loop-i : goal.invariant-loop-i
invariant-loop-i l =
    (l.x < 2147483648)
    × (l.fn.text ++ drawn_lines 0 (draws (3 * l.fn.count) l.fn.start)
    ≡ l.text ++ drawn_lines l.i (draws (3 * (l.fn.count - l.i)) l.x))
