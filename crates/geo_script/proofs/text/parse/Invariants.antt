use Rattle.std.proofs.Common.{◌≡◌, ◌+◌, ◌≤◌, length}
use Rattle.geo_model.specs.Script.{script}
use Rattle.geo_script.proofs.TextLemmas.{rest_read}
use Rattle.geo_script.proofs.text.parse.Given as goal

-- the draft so far, with the lines that are left, makes the plan of the text; each line took a byte or more
abbrev pub invariant-loop-rest : goal.invariant-loop-rest
invariant-loop-rest l = record {
  read : rest_read l.draft l.number l.rest ≡ script l.text;
  room : l.number + length l.rest ≤ length l.text;
}

abbrev pub decreases-loop-rest : goal.decreases-loop-rest
decreases-loop-rest l = length l.rest
