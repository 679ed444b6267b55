use Rattle.std.proofs.Common.{◌∙◌, ap}
use Rattle.geo_moves.specs.declared.decisions.Decision.TheVariants.{Opens}
use Rattle.geo_moves.proofs.Doing.{owes_after}
use Rattle.geo_moves.proofs.decisions.owed_after.Goals as goal

-- an open that nothing refuses owes one place more, a close that is answered ok one fewer
pub returns-in-Opens-None : goal.returns-in-Opens-None
returns-in-Opens-None c =
    owes_after c.args.state.now c.requires.kept c.places_owed-owed.result c.places_owed-owed.ensures.owed
    c.args.decision.now _
    (c.in-Opens-None.is ∙ ap (λ o. Opens o) (rw c.in-Opens-None.is at c.in-Opens-None.field-0-is))

pub returns-in-Opens-Some : goal.returns-in-Opens-Some
returns-in-Opens-Some c =
    owes_after c.args.state.now c.requires.kept c.places_owed-owed.result c.places_owed-owed.ensures.owed
    c.args.decision.now _
    (c.in-Opens-Some.is ∙ ap (λ o. Opens o) (rw c.in-Opens-Some.is at c.in-Opens-Some.field-0-is))

pub returns-in-Closes : goal.returns-in-Closes
returns-in-Closes c actors log line actor command decided =
    c.saturating_sub.ensures
    ∙ owes_after c.args.state.now c.requires.kept c.places_owed-owed.result c.places_owed-owed.ensures.owed
    c.args.decision.now _ c.in-Closes.is actors log line actor command decided

pub returns-in-Other : goal.returns-in-Other
returns-in-Other c =
    owes_after c.args.state.now c.requires.kept c.places_owed-owed.result c.places_owed-owed.ensures.owed
    c.args.decision.now _ c.in-Other.is
