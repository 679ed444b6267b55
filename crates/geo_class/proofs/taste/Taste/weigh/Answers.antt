use Rattle.std.proofs.Common.{ap, ◌∙◌}
use Rattle.geo_model.specs.World.{Taste}
use Rattle.geo_class.specs.Taste.{chain_with, verdict_with}
use Rattle.geo_class.proofs.taste.Taste.weigh.Goals as goal

-- Here and below: the chain within is the one that shows, and nothing else of the taste is touched
pub returns-clause-verdict : goal.returns-clause-verdict
returns-clause-verdict c =
    c.weigh.ensures.verdict
    ∙ ap (λ (s : Taste). verdict_with s.chain c.args.kind c.args.sector.now c.args.facts.now) c.self.view_is

pub returns-clause-taste : goal.returns-clause-taste
returns-clause-taste c =
    ap (λ chain. record (Rattle.geo_class.specs.contracts.taste.Taste.the_view c.self.inside) { chain = chain })
    c.weigh.ensures.chain
    ∙ ap (λ (s : Taste). record s {
      chain = chain_with s.chain c.args.kind c.args.sector.now c.args.facts.now c.weigh.result;
    }) c.self.view_is
