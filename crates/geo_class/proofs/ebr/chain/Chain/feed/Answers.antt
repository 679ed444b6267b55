use Rattle.std.proofs.Common.{ℕ, List, sym, ap, ◌∙◌}
use Rattle.geo_model.specs.declared.class.Verdict.{Verdict}
use Rattle.geo_model.specs.declared.class.Verdict.TheVariants.{More}
use Rattle.geo_model.specs.Chain.{feed, with_link}
use Rattle.geo_class.specs.ebr.ChainView.{ChainView}
use Rattle.geo_class.proofs.EbrChainLemmas.{feed-declined, feed-more, feed-whole, more_kept, more_seen}
use Rattle.geo_class.proofs.ebr.chain.Chain.feed.Goals as goal

-- the model's answer to these bytes
abbrev answer_to : List ℕ → ChainView → Verdict
answer_to bytes v = feed v.sectors v.chain bytes

-- the model tests the same link behind the same ones, so its first cause is this one
pub returns-in-Some-clause-answer : goal.returns-in-Some-clause-answer
returns-in-Some-clause-answer c =
    feed-declined c.self.inside.sectors c.self.inside.next c.self.inside.count c.self.inside.visited
    c.self.inside.parts c.self.invariant c.args.sector.now c.named_part.result c.named_part.ensures c.in-Some.cause
    (sym c.in-Some.is ∙ c.cause_against.ensures)
    ∙ ap (answer_to c.args.sector.now) c.self.view_is

-- nothing is against the chain and it leads no further, so it is whole with this link
pub returns-then-not-leads_on-clause-answer : goal.returns-then-not-leads_on-clause-answer
returns-then-not-leads_on-clause-answer c =
    feed-whole c.self.inside.sectors c.self.inside.next c.self.inside.count c.self.inside.visited c.self.inside.parts
    c.self.invariant c.args.sector.now c.named_part.result c.named_part.ensures
    (sym c.in_default.is ∙ c.cause_against.ensures) (sym c.leads_on.ensures ∙ c.if-not-leads_on.true)
    ∙ ap (answer_to c.args.sector.now) c.self.view_is

-- it leads on, so it isn't too long, and there is a cell for one link more
pub invariant_of-self : goal.invariant_of-self
invariant_of-self c =
    more_kept c.self.inside.sectors c.self.inside.next c.self.inside.count c.self.inside.visited c.self.inside.parts
    c.self.invariant c.args.sector.now c.named_part.result c.named_part.ensures
    (sym c.in_default.is ∙ c.cause_against.ensures) (sym c.leads_on.ensures ∙ c.if-not-leads_on.false)

-- nothing is against the chain and its last link leads on, so the model wants the sector that this names
pub returns-clause-answer : goal.returns-clause-answer
returns-clause-answer c =
    ap More (c.from.ensures ∙ c.next_link-self-inside.ensures)
    ∙ feed-more c.self.inside.sectors c.self.inside.next c.self.inside.count c.self.inside.visited c.self.inside.parts
    c.self.invariant c.args.sector.now c.named_part.result c.named_part.ensures
    (sym c.in_default.is ∙ c.cause_against.ensures) (sym c.leads_on.ensures ∙ c.if-not-leads_on.false)
    ∙ ap (answer_to c.args.sector.now) c.self.view_is

-- the link that was read stands behind the others, and the next one is where it leads
pub returns-clause-chain : goal.returns-clause-chain
returns-clause-chain c =
    more_seen c.self.inside.sectors c.self.inside.next c.self.inside.count c.self.inside.visited c.self.inside.parts
    c.self.invariant c.args.sector.now c.named_part.result c.named_part.ensures c.next_link-self-inside.result
    c.next_link-self-inside.ensures
    ∙ ap (λ (v : ChainView). record { sectors = v.sectors; chain = with_link v.sectors v.chain c.args.sector.now })
    c.self.view_is
