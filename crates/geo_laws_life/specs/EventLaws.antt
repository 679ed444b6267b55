-- What events, and their step, keep of a firm world: of one that is sound, steady and fitting (g_event(9)).
use Rattle.std.specs.Prelude.{◌≡◌, ℕ, false, None}
use Rattle.geo_model.specs.declared.step.Event.{Event}
use Rattle.geo_model.specs.declared.step.Step.TheVariants as steps
use Rattle.geo_model.specs.Events.{is_not_tasted}
use Rattle.geo_model.specs.World.{World, granted_in}
use Rattle.geo_model.specs.WorldEvents.{begin_taste, do_event}
use Rattle.geo_model.specs.Laws.{world_by}
use Rattle.geo_model.specs.Fitting.{Firm}

-- a taste that begins, each event while nothing is tasted, and the step of an event
pub record EventStepKeepsFirm : Type 0 where
  pub begun : (w : World) (p : ℕ) → w.taste ≡ None → is_not_tasted (granted_in w) w.topology p ≡ false → Firm w
      → Firm (begin_taste w p)
  pub done : (w : World) (e : Event) → w.taste ≡ None → Firm w → Firm (do_event w e)
  pub step : (w : World) (seat : ℕ) → Firm w → Firm (world_by w seat steps.Event)
