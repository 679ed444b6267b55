use Rattle.std.proofs.Common.{All, vec_len}
use Rattle.geomnbd.specs.Forms.{HasForm}
use Rattle.geomnbd.proofs.setup.make_all.Given as goal

-- the commands that are left have their forms
abbrev pub invariant-loop-left : goal.invariant-loop-left
invariant-loop-left g l = All HasForm l.left.items

abbrev pub decreases-loop-left : goal.decreases-loop-left
decreases-loop-left g l = vec_len l.left
