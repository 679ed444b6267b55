use Rattle.std.proofs.Common.{sym, ◌∙◌}
use Rattle.geo_moves.proofs.Deciding.{judge-found}
use Rattle.geo_moves.proofs.founds.judge_found.Goals as goal

pub returns : goal.returns
returns c actors log = judge-found c.args.state.now c.requires.kept actors log ∙ sym c.taste_found.ensures
