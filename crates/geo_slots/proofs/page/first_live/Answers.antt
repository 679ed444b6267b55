use Rattle.std.proofs.Common.{◌+◌, ◌/◌, ◌<◌, ◌^◌, Some, ap, subst, sym, ◌∙◌, arith}
use Rattle.geo_slots.specs.Pages.{IsFirst, key_in}
use Rattle.geo_slots.proofs.PageLemmas.{none_from, lowest_bit, first_from}
use Rattle.geo_slots.proofs.page.first_live.Goals as goal

pub returns-then-rest-eq0-clause-first : goal.returns-then-rest-eq0-clause-first
returns-then-rest-eq0-clause-first c =
    λ page is n low high. none_from page c.args.from n (ap (λ x. x / 2 ^ c.args.from) is ∙ c.if-rest-eq0.true) low

-- the lowest bit that is left is the first number's
pub returns-clause-first : goal.returns-clause-first
returns-clause-first c = λ page is.
    subst (λ r. IsFirst (key_in page) c.args.from 64 (Some (c.args.from + r))) (sym c.from.ensures)
    (first_from page c.args.live c.args.from is (omega (arith, c.ranges.live.fits)) c.if-rest-eq0.false)

pub returns-clause-within : goal.returns-clause-within
returns-clause-within c =
    let lowest = lowest_bit c.args.live c.args.from (omega (arith, c.ranges.live.fits)) c.if-rest-eq0.false in
    subst (λ r. c.args.from + r < 64) (sym c.from.ensures) lowest.0
