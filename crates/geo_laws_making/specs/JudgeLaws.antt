-- What a step of the taste keeps of a firm world: of one that is sound, steady and fitting (geom(4)).
use Rattle.std.specs.Prelude.{ℕ}
use Rattle.geo_model.specs.declared.step.Step.TheVariants as steps
use Rattle.geo_model.specs.World.{World}
use Rattle.geo_model.specs.Fitting.{Firm}
use Rattle.geo_model.specs.Laws.{world_by}
use Rattle.geo_model.specs.Log.{world_after}
use Rattle.geo_model.specs.Step.{judge_next}

-- a step of a taste leaves a firm world firm, whether it is enabled or not, made by any seat
pub record JudgesStayFirm : Type 0 where
  pub judged : (w : World) → Firm w → Firm (world_after w (judge_next w))
  pub step : (w : World) (seat : ℕ) → Firm w → Firm (world_by w seat steps.Judge)
