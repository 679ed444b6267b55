-- The lines of the commands so far were added.
use Rattle.std.proofs.Common.{◌≡◌, ◌++◌, take, flat_map}
use Rattle.geo_model.specs.Report.{line_text}
use Rattle.geo_report.proofs.lines.add_lines.Given as goal

abbrev pub invariant-loop-command : goal.invariant-loop-command
invariant-loop-command l = l.text ≡ l.fn.text ++ flat_map (line_text l.log) (take l.command-index l.commands)
