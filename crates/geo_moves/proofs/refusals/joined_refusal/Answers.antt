use Rattle.std.proofs.Common.{ap, ◌∙◌}
use Rattle.geo_model.specs.Words.{first_error}
use Rattle.geo_moves.proofs.Assembled.{tests_are}
use Rattle.geo_moves.proofs.refusals.joined_refusal.Goals as goal

-- what is kept of each provider is what the model's tests read of it
pub returns : goal.returns
returns c = λ config ps is size_is.
    c.first_against.ensures
    ∙ ap first_error
    (tests_are c.args.topo.now.topology c.args.name.now config ps c.args.wanted c.args.is_bad
    c.args.below.now c.args.size is size_is)
