use Rattle.geo_laws_texts.proofs.ChainProofs.{chains_are_read}
use Rattle.geo_laws_texts.proofs.chains.chains_are_read.Goals as goal

pub returns : goal.returns
returns c = chains_are_read
