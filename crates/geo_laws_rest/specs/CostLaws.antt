-- Each Judge lowers the measure, also one by which a class makes a geom (geom(4)).
use Rattle.std.specs.Prelude.{ℕ, IsTrue}
use Rattle.geo_model.specs.declared.step.Step.TheVariants as steps
use Rattle.geo_model.specs.World.{World}
use Rattle.geo_model.specs.Step.{is_enabled}
use Rattle.geo_model.specs.Fitting.{Firm}
use Rattle.geo_model.specs.Laws.{Lowers}

-- each Judge, whatever it comes to
abbrev pub JudgesLower : Type 0
JudgesLower = (w : World) (seat : ℕ) → Firm w → IsTrue (is_enabled w seat steps.Judge) → Lowers w seat steps.Judge
