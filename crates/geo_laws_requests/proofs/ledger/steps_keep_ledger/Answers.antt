use Rattle.geo_laws_requests.proofs.Stepped.{steps_keep_ledger}
use Rattle.geo_laws_requests.proofs.ledger.steps_keep_ledger.Goals as goal

pub returns : goal.returns
returns c = steps_keep_ledger
