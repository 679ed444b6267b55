-- Each of the nine steps keeps a firm mesh firm.
use Rattle.geo_model.specs.declared.step.Step.TheVariants as steps
use Rattle.geo_model.specs.Laws.{StepsStayFirm}
use Rattle.geo_laws_bios.proofs.BioSteps.{bio_steps_stay_firm}
use Rattle.geo_laws_life.proofs.Begun.{event_step_keeps}
use Rattle.geo_laws_life.proofs.Washed.{wash_step_keeps}
use Rattle.geo_laws_handles.proofs.Reaped.{reaps_stay_firm}
use Rattle.geo_laws_making.proofs.Judging.{judges_stay_firm}
use Rattle.geo_laws_steps.proofs.Gone.{commands_stay_firm}

-- each step
pub steps_stay_firm : StepsStayFirm
steps_stay_firm w seat (steps.Go actor) firm = commands_stay_firm.gone w seat actor firm
steps_stay_firm w seat steps.Event firm = event_step_keeps.step w seat firm
steps_stay_firm w seat steps.Judge firm = judges_stay_firm.step w seat firm
steps_stay_firm w seat steps.Reap firm = reaps_stay_firm.step w seat firm
steps_stay_firm w seat steps.Wash firm = wash_step_keeps.firm w seat firm
steps_stay_firm w seat (steps.Start b) firm = bio_steps_stay_firm.start w seat b firm
steps_stay_firm w seat (steps.Take disk b) firm = bio_steps_stay_firm.take w seat disk b firm
steps_stay_firm w seat (steps.Deliver b got) firm = bio_steps_stay_firm.deliver w seat b got firm
steps_stay_firm w seat (steps.Up b) firm = bio_steps_stay_firm.up w seat b firm
