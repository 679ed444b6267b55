-- After every prefix of a legal log the mesh is firm.
use Rattle.std.specs.Prelude.{ℕ, List, [], ◌∷◌}
use Rattle.geo_model.specs.declared.step.Entry.{Entry}
use Rattle.geo_model.specs.World.{World, Plan}
use Rattle.geo_model.specs.Plans.{MayBegin, FactsFit}
use Rattle.geo_model.specs.Opening.{opening}
use Rattle.geo_model.specs.Log.{replay, after_entry}
use Rattle.geo_model.specs.Fitting.{Firm}
use Rattle.geo_model.specs.History.{LegalAndSound}
use Rattle.geo_model.specs.Laws.{OfEachLegalLog, LegalLogsStaySteady, LegalLogsStayFitting}
use Rattle.geo_model.proofs.FirmLemmas.{sound_of, steady_of, fitting_of, firm_of}
use Rattle.geo_laws_life.proofs.Opened.{opening-sound, opening-steady}
use Rattle.geo_laws_life.proofs.Fits.{opening-fitting}
use Rattle.geo_laws_steps.proofs.Stepped.{steps_stay_firm}

-- the world with which a plan begins is firm
pub opened_firm : (plan : Plan) (facts : List (ℕ × ℕ)) → MayBegin plan → FactsFit plan facts → Firm (opening plan facts)
opened_firm plan facts is fit =
    firm_of (opening plan facts) (opening-sound plan facts is fit) (opening-steady plan facts is fit)
    (opening-fitting plan facts is fit)

-- a firm world stays firm along any entries
pub stays_firm : (w : World) (log : List Entry) → Firm w → Firm (replay w log)
stays_firm w [] firm = firm
stays_firm w (e ∷ log) firm = stays_firm (after_entry w e) log (steps_stay_firm w e.seat e.step firm)

-- after a log of a plan
pub firm_after : (plan : Plan) (facts : List (ℕ × ℕ)) → MayBegin plan → FactsFit plan facts → (log : List Entry)
    → Firm (replay (opening plan facts) log)
firm_after plan facts is fit log = stays_firm (opening plan facts) log (opened_firm plan facts is fit)

-- it is sound after each prefix
pub legal_logs_stay_sound : OfEachLegalLog LegalAndSound
legal_logs_stay_sound plan facts is fit log legal = record {
  legal = legal;
  sound = λ earlier begins. sound_of (replay (opening plan facts) earlier) (firm_after plan facts is fit earlier);
}

-- it is steady
pub legal_logs_stay_steady : LegalLogsStaySteady
legal_logs_stay_steady plan facts is fit log legal =
    steady_of (replay (opening plan facts) log) (firm_after plan facts is fit log)

-- it is fitting
pub legal_logs_stay_fitting : LegalLogsStayFitting
legal_logs_stay_fitting plan facts is fit log legal =
    fitting_of (replay (opening plan facts) log) (firm_after plan facts is fit log)
