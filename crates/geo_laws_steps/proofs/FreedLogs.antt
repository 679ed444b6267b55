-- In a legal log each step destroys only what was closed, detached and idle, and offers for taste only what lives.
use Rattle.geo_model.specs.Opening.{opening}
use Rattle.geo_model.specs.Log.{replay}
use Rattle.geo_model.specs.History.{AlwaysFreesOnlyIdle}
use Rattle.geo_model.specs.Laws.{OfEachLegalLog, LegalLogsOfferOnlyLiving}
use Rattle.geo_laws_steps.proofs.Frees.{steps_free_only_idle}
use Rattle.geo_laws_steps.proofs.Offers.{steps_offer_only_living}
use Rattle.geo_laws_steps.proofs.Logs.{firm_after}

-- what is destroyed was idle
pub legal_logs_free_only_idle : OfEachLegalLog AlwaysFreesOnlyIdle
legal_logs_free_only_idle plan facts is fit log legal earlier e split =
    steps_free_only_idle (replay (opening plan facts) earlier) e (firm_after plan facts is fit earlier)

-- what is offered lives
pub legal_logs_offer_only_living : LegalLogsOfferOnlyLiving
legal_logs_offer_only_living plan facts is fit log legal earlier e split =
    steps_offer_only_living (replay (opening plan facts) earlier) e.seat e.step (firm_after plan facts is fit earlier)
