use Rattle.std.proofs.Common.{Some, sym, ap, ◌∙◌}
use Rattle.geo_class.specs.Taste.{settled, shape_of}
use Rattle.geo_class.proofs.TasteLemmas.{taken-weighed, weighed_after, weighed-shape, weighed-back}
use Rattle.geo_class.proofs.taste.Taste.weigh_back.Goals as goal

-- The sector was taken out, but the chain that it is judged by is as before: so what is found is what the model finds
pub returns-in-Accept-clause-shape : goal.returns-in-Accept-clause-shape
returns-in-Accept-clause-shape c granted =
    sym (ap (λ v. shape_of (Some v)) c.in-Accept.is)
    ∙ weighed-shape granted c.args.self.now c.in-Some.kind c.in-Some.block c.args.facts.now
    (sym c.in-Some.ensures.sector) c.weigh-verdict.result
    (taken-weighed c.args.self.now c.in-Some.kind c.in-Some.block c.args.facts.now c.weigh-verdict.ensures.verdict
    c.bytes.ensures c.take_sector.ensures.taste)

pub returns-in-More-clause-shape : goal.returns-in-More-clause-shape
returns-in-More-clause-shape c granted =
    sym (ap (λ v. shape_of (Some v)) c.in-More.is)
    ∙ weighed-shape granted c.args.self.now c.in-Some.kind c.in-Some.block c.args.facts.now
    (sym c.in-Some.ensures.sector) c.weigh-verdict.result
    (taken-weighed c.args.self.now c.in-Some.kind c.in-Some.block c.args.facts.now c.weigh-verdict.ensures.verdict
    c.bytes.ensures c.take_sector.ensures.taste)

pub returns-in-Decline-clause-shape : goal.returns-in-Decline-clause-shape
returns-in-Decline-clause-shape c granted =
    sym (ap (λ v. shape_of (Some v)) c.in-Decline.is)
    ∙ weighed-shape granted c.args.self.now c.in-Some.kind c.in-Some.block c.args.facts.now
    (sym c.in-Some.ensures.sector) c.weigh-verdict.result
    (taken-weighed c.args.self.now c.in-Some.kind c.in-Some.block c.args.facts.now c.weigh-verdict.ensures.verdict
    c.bytes.ensures c.take_sector.ensures.taste)

-- The sector that was taken out is put back where it is accepted, and else isn't read any more
pub returns-in-Accept-clause-taste : goal.returns-in-Accept-clause-taste
returns-in-Accept-clause-taste c granted =
    c.settle.ensures
    ∙ ap (λ s. settled s c.in-Some.kind c.in-Some.block c.weigh-verdict.result)
    (weighed_after c.args.self.now c.in-Some.kind c.in-Some.block c.args.facts.now c.weigh-verdict.result
    c.weigh-verdict.ensures.taste c.bytes.ensures c.take_sector.ensures.taste)
    ∙ weighed-back granted c.args.self.now c.in-Some.kind c.in-Some.block c.args.facts.now
    (sym c.in-Some.ensures.sector) c.weigh-verdict.result
    (taken-weighed c.args.self.now c.in-Some.kind c.in-Some.block c.args.facts.now c.weigh-verdict.ensures.verdict
    c.bytes.ensures c.take_sector.ensures.taste)

pub returns-in-More-clause-taste : goal.returns-in-More-clause-taste
returns-in-More-clause-taste c granted =
    c.settle.ensures
    ∙ ap (λ s. settled s c.in-Some.kind c.in-Some.block c.weigh-verdict.result)
    (weighed_after c.args.self.now c.in-Some.kind c.in-Some.block c.args.facts.now c.weigh-verdict.result
    c.weigh-verdict.ensures.taste c.bytes.ensures c.take_sector.ensures.taste)
    ∙ weighed-back granted c.args.self.now c.in-Some.kind c.in-Some.block c.args.facts.now
    (sym c.in-Some.ensures.sector) c.weigh-verdict.result
    (taken-weighed c.args.self.now c.in-Some.kind c.in-Some.block c.args.facts.now c.weigh-verdict.ensures.verdict
    c.bytes.ensures c.take_sector.ensures.taste)

pub returns-in-Decline-clause-taste : goal.returns-in-Decline-clause-taste
returns-in-Decline-clause-taste c granted =
    c.settle.ensures
    ∙ ap (λ s. settled s c.in-Some.kind c.in-Some.block c.weigh-verdict.result)
    (weighed_after c.args.self.now c.in-Some.kind c.in-Some.block c.args.facts.now c.weigh-verdict.result
    c.weigh-verdict.ensures.taste c.bytes.ensures c.take_sector.ensures.taste)
    ∙ weighed-back granted c.args.self.now c.in-Some.kind c.in-Some.block c.args.facts.now
    (sym c.in-Some.ensures.sector) c.weigh-verdict.result
    (taken-weighed c.args.self.now c.in-Some.kind c.in-Some.block c.args.facts.now c.weigh-verdict.ensures.verdict
    c.bytes.ensures c.take_sector.ensures.taste)
