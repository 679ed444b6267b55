use Rattle.geo_script.proofs.WordsLemmas.{first_place}
use Rattle.geo_script.proofs.words.find_byte.Goals as goal

-- what the kit's search finds is the first place
pub returns-clause-place : goal.returns-clause-place
returns-clause-place c = first_place c.args.byte c.args.bytes.now c.memchr.result c.memchr.ensures
