-- The consumers of the pieces so far.
use Rattle.std.proofs.Common.{◌≡◌, take}
use Rattle.geo_class.specs.Targets.{consumers_for}
use Rattle.geo_class.proofs.config.Config.consumers.Given as goal

abbrev pub invariant-loop-piece : goal.invariant-loop-piece
invariant-loop-piece l = l.consumers.items ≡ consumers_for l.self (take l.piece-index l.pieces)
