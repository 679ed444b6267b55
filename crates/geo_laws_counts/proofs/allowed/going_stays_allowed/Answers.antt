use Rattle.geo_laws_counts.proofs.Openers.{went_exclusive, went_limit}
use Rattle.geo_laws_counts.proofs.allowed.going_stays_allowed.Goals as goal

pub returns-clause-exclusive : goal.returns-clause-exclusive
returns-clause-exclusive g c granted t after d goes e =
    went_exclusive granted after t d goes.only goes.kind goes.agree e

pub returns-clause-limit : goal.returns-clause-limit
returns-clause-limit g c granted t after d goes e = went_limit granted after t d goes.only goes.kind goes.agree e
