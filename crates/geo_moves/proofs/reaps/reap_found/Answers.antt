use Rattle.geo_moves.proofs.Settling.{some-to-reap, none-to-reap}
use Rattle.std.proofs.Common.{sym, ◌∙◌}
use Rattle.geo_moves.proofs.reaps.reap_found.Goals as goal

-- for both answers: noted as ready are just the dead handles with a consumer through which nothing is out
pub returns-in-Some : goal.returns-in-Some
returns-in-Some c =
    λ actors log. some-to-reap c.args.state.now c.requires.kept actors log _ _ c.first_ready.ensures c.in-Some.is

pub returns-in-None : goal.returns-in-None
returns-in-None c =
    λ actors log. none-to-reap c.args.state.now c.requires.kept actors log (sym c.first_ready.ensures ∙ c.in-None.is)
