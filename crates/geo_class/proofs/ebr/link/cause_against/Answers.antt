use Rattle.std.proofs.Common.{true, false, length, sym, ◌∙◌}
use Rattle.std.proofs.lemmas.Bool.{le-leb, lt-leb}
use Rattle.geo_model.specs.TheConstants.{MAX_LINKS}
use Rattle.geo_class.proofs.EbrCauseLemmas.{against-end, against-back, against-far, against-long, against-none}
use Rattle.geo_class.proofs.ebr.link.cause_against.Goals as goal

-- Each way out: the model's tests before this one fail, so this is its first cause, or the last fails and it has none
pub returns-then-is_any_kept : goal.returns-then-is_any_kept
returns-then-is_any_kept c =
    sym (against-end c.args.sectors c.args.visited.now c.args.parts.now c.args.sector.now c.requires.alike
    (sym c.has_signature.ensures ∙ c.if-not-has_signature.false) (sym c.is_link.ensures ∙ c.if-not-is_link.false) true
    (sym c.leads_on.ensures ∙ c.if-not-leads_on.true) (sym c.is_any_kept.ensures ∙ c.if-is_any_kept.true))

pub returns-else-is_any_kept : goal.returns-else-is_any_kept
returns-else-is_any_kept c =
    sym (against-end c.args.sectors c.args.visited.now c.args.parts.now c.args.sector.now c.requires.alike
    (sym c.has_signature.ensures ∙ c.if-not-has_signature.false) (sym c.is_link.ensures ∙ c.if-not-is_link.false) false
    (sym c.leads_on.ensures ∙ c.if-not-leads_on.true) (sym c.is_any_kept.ensures ∙ c.if-is_any_kept.false))

pub returns-then-leads_back : goal.returns-then-leads_back
returns-then-leads_back c =
    sym (against-back c.args.sectors c.args.visited.now c.args.parts.now c.args.sector.now c.requires.alike
    (sym c.has_signature.ensures ∙ c.if-not-has_signature.false) (sym c.is_link.ensures ∙ c.if-not-is_link.false)
    (sym c.leads_on.ensures ∙ c.if-not-leads_on.false) (sym c.leads_back.ensures ∙ c.if-leads_back.true))

pub returns-then-leads_past : goal.returns-then-leads_past
returns-then-leads_past c =
    sym (against-far c.args.sectors c.args.visited.now c.args.parts.now c.args.sector.now c.requires.alike
    (sym c.has_signature.ensures ∙ c.if-not-has_signature.false) (sym c.is_link.ensures ∙ c.if-not-is_link.false)
    (sym c.leads_on.ensures ∙ c.if-not-leads_on.false) (sym c.leads_back.ensures ∙ c.if-leads_back.false)
    (sym c.leads_past.ensures ∙ c.if-leads_past.true))

pub returns-then-visited-ge-MAX_LINKS : goal.returns-then-visited-ge-MAX_LINKS
returns-then-visited-ge-MAX_LINKS c =
    sym (against-long c.args.sectors c.args.visited.now c.args.parts.now c.args.sector.now c.requires.alike
    (sym c.has_signature.ensures ∙ c.if-not-has_signature.false) (sym c.is_link.ensures ∙ c.if-not-is_link.false)
    (le-leb MAX_LINKS (length c.args.visited.now) c.if-visited-ge-MAX_LINKS.true)
    (sym c.leads_on.ensures ∙ c.if-not-leads_on.false) (sym c.leads_back.ensures ∙ c.if-leads_back.false)
    (sym c.leads_past.ensures ∙ c.if-leads_past.false))

pub returns : goal.returns
returns c =
    sym (against-none c.args.sectors c.args.visited.now c.args.parts.now c.args.sector.now c.requires.alike
    (sym c.has_signature.ensures ∙ c.if-not-has_signature.false) (sym c.is_link.ensures ∙ c.if-not-is_link.false)
    (lt-leb MAX_LINKS (length c.args.visited.now) c.if-visited-ge-MAX_LINKS.false)
    (sym c.leads_on.ensures ∙ c.if-not-leads_on.false) (sym c.leads_back.ensures ∙ c.if-leads_back.false)
    (sym c.leads_past.ensures ∙ c.if-leads_past.false))
