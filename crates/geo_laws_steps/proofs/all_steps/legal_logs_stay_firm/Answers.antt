use Rattle.geo_laws_steps.proofs.Logs.{legal_logs_stay_sound, legal_logs_stay_steady, legal_logs_stay_fitting}
use Rattle.geo_laws_steps.proofs.all_steps.legal_logs_stay_firm.Goals as goal

pub returns-clause-sound : goal.returns-clause-sound
returns-clause-sound c = legal_logs_stay_sound

pub returns-clause-steady : goal.returns-clause-steady
returns-clause-steady c = legal_logs_stay_steady

pub returns-clause-fitting : goal.returns-clause-fitting
returns-clause-fitting c = legal_logs_stay_fitting
