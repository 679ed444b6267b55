use Rattle.std.proofs.Common.{subst}
use Rattle.geo_model.specs.Step.{wash_next}
use Rattle.geo_state.specs.Steps.{IsAgainst}
use Rattle.geo_moves.proofs.Deciding.{wash_against, wash-found}
use Rattle.geo_moves.proofs.founds.wash_found.Goals as goal

-- for both answers: by counts that are right the model looks for what can go, and finds the same
pub returns-in-Some : goal.returns-in-Some
returns-in-Some c =
    subst (λ o. IsAgainst wash_next c.args.state.now (wash_against o)) c.in-Some.is
    (wash-found c.args.state.now c.requires.stands c.wash_where.result c.wash_where.ensures.found)

pub returns-in-None : goal.returns-in-None
returns-in-None c =
    subst (λ o. IsAgainst wash_next c.args.state.now (wash_against o)) c.in-None.is
    (wash-found c.args.state.now c.requires.stands c.wash_where.result c.wash_where.ensures.found)
