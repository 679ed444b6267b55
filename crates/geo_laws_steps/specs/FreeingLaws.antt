-- What each step destroys was closed, detached and idle, and what each step offers for taste lives (g_event(9),
-- g_wither_geom(9)).
use Rattle.std.specs.Prelude.{ℕ}
use Rattle.geo_model.specs.declared.step.Entry.{Entry}
use Rattle.geo_model.specs.declared.step.Step.{Step}
use Rattle.geo_model.specs.World.{World}
use Rattle.geo_model.specs.History.{FreesOnlyIdle}
use Rattle.geo_model.specs.Laws.{world_by}
use Rattle.geo_model.specs.Steady.{OffersOnlyLiving}
use Rattle.geo_model.specs.Fitting.{Firm}

-- in a firm mesh what a step of an entry destroys was closed, detached and idle
abbrev pub StepsFreeOnlyIdle : Type 0
StepsFreeOnlyIdle = (w : World) (e : Entry) → Firm w → FreesOnlyIdle w e

-- and a step offers for taste only what lives
abbrev pub StepsOfferOnlyLiving : Type 0
StepsOfferOnlyLiving = (w : World) (seat : ℕ) (s : Step) → Firm w → OffersOnlyLiving w (world_by w seat s)
