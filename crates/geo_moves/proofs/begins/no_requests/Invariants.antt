-- None of the actors so far has a request out.
use Rattle.std.proofs.Common.{◌≡◌}
use Rattle.std.specs.List.{AllByRecursion}
use Rattle.geo_state.specs.declared.state.OwnBios.{OwnBios}
use Rattle.geo_moves.proofs.begins.no_requests.Given as goal

abbrev pub invariant-loop-actor : goal.invariant-loop-actor
invariant-loop-actor l = AllByRecursion (λ (x : OwnBios). x.count ≡ 0) l.own.items
