-- The four steps of bios keep a mesh sound, steady and fitting (g_bio(9)).
use Rattle.std.specs.Prelude.{ℕ}
use Rattle.geo_model.specs.declared.step.DeviceResult.{DeviceResult}
use Rattle.geo_model.specs.declared.step.Step.TheVariants as steps
use Rattle.geo_model.specs.World.{World}
use Rattle.geo_model.specs.Fitting.{Firm}
use Rattle.geo_model.specs.Laws.{world_by}

-- each of the four leaves a firm mesh firm, made by any seat, whether it is enabled or not
pub record BioStepsStayFirm : Type 0 where
  pub start : (w : World) (seat b : ℕ) → Firm w → Firm (world_by w seat (steps.Start b))
  pub take : (w : World) (seat disk b : ℕ) → Firm w → Firm (world_by w seat (steps.Take disk b))
  pub deliver : (w : World) (seat b : ℕ) (got : DeviceResult) → Firm w → Firm (world_by w seat (steps.Deliver b got))
  pub up : (w : World) (seat b : ℕ) → Firm w → Firm (world_by w seat (steps.Up b))
