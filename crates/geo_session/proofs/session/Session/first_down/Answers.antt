use Rattle.std.proofs.Common.{Some, None, sym, ◌∙◌}
use Rattle.geo_model.specs.declared.step.Step.TheVariants as steps
use Rattle.geo_model.specs.World.{is_down}
use Rattle.geo_session.proofs.Reading.{first_step, reads}
use Rattle.geo_session.proofs.session.Session.first_down.Goals as goal

pub returns-in-Some : goal.returns-in-Some
returns-in-Some c =
    first_step (reads c.deref.ensures c.self.view_is c.self.invariant) is_down (λ n. steps.Start n) (Some c.in-Some.bio)
    (sym c.in-Some.is ∙ c.first_down.ensures)

pub returns-in-None : goal.returns-in-None
returns-in-None c =
    first_step (reads c.deref.ensures c.self.view_is c.self.invariant) is_down (λ n. steps.Start n) None
    (sym c.in-None.is ∙ c.first_down.ensures)
