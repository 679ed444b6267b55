use Rattle.std.proofs.Common.{sym, ◌∙◌}
use Rattle.geo_moves.proofs.Assembled.{not_taken}
use Rattle.geo_moves.proofs.refusals.is_taken.Goals as goal

-- all providers have names, so none is called by bytes that aren't one
pub returns-in-None : goal.returns-in-None
returns-in-None c = λ bytes is.
    not_taken c.args.topo.now.topology bytes c.requires.named (sym is ∙ c.in-None.is)
