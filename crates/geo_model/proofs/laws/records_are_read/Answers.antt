use Rattle.geo_model.proofs.RecordLemmas.{label-read, concat-read, stripe-read}
use Rattle.geo_model.proofs.laws.records_are_read.Goals as goal

pub returns-clause-labels : goal.returns-clause-labels
returns-clause-labels c size x sector short fits = label-read size x short fits

pub returns-clause-concats : goal.returns-clause-concats
returns-clause-concats c size x sector short fits = concat-read size x short fits

pub returns-clause-stripes : goal.returns-clause-stripes
returns-clause-stripes c size x sector short fits good = stripe-read size x sector short fits good
