use Rattle.geo_laws_owed.proofs.Room.{logs_stay_lawful}
use Rattle.geo_laws_owed.proofs.Room.{logs_fit_exactly}
use Rattle.geo_laws_owed.proofs.logs_stay_lawful.Goals as goal

pub returns-clause-stay : goal.returns-clause-stay
returns-clause-stay c = logs_stay_lawful

pub returns-clause-exactly : goal.returns-clause-exactly
returns-clause-exactly c = logs_fit_exactly
