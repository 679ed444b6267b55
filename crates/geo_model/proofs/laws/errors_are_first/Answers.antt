use Rattle.geo_model.proofs.ErrorLemmas.{error_of_result-result_of}
use Rattle.geo_model.proofs.laws.errors_are_first.Goals as goal

pub returns : goal.returns
returns c history b r e = error_of_result-result_of history b r e
