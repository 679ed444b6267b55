use Rattle.geo_class.proofs.TasteLemmas.{with-judge, chain-stays}
use Rattle.std.proofs.Common.{◌∙◌}
use Rattle.geo_class.proofs.taste.weigh.Goals as goal

-- a class other than EBR isn't judged by a chain, and keeps no link
pub returns-in_default : goal.returns-in_default
returns-in_default c = record {
  verdict = c.judge.ensures
      ∙ with-judge c.args.chain.now.chain c.args.kind c.args.sector.now c.args.facts.now c.in_default.not-Ebr;
  chain = chain-stays c.args.chain.now.chain c.args.kind c.args.sector.now c.args.facts.now c.judge.result
      c.in_default.not-Ebr;
}
