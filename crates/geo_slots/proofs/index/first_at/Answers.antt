use Rattle.std.proofs.Common.{◌≡◌, ◌∙◌, ◌+◌, ◌*◌, max, Some, ap, subst, sym, arith}
use Rattle.std.proofs.lemmas.Option.{same_Some}
use Rattle.std.specs.List.{slice_get}
use Rattle.std.specs.Option.{option_map}
use Rattle.geo_slots.specs.Pages.{IsFirst, key_at, page_at}
use Rattle.geo_slots.specs.declared.page.Page.{Page}
use Rattle.geo_slots.proofs.PlaceLemmas.{entry_with_bits, within_here, value_here}
use Rattle.geo_slots.proofs.KeyLemmas.{first_of_page}
use Rattle.geo_slots.proofs.index.first_at.Goals as goal
use Rattle.geo_slots.proofs.index.first_at.Goals.{In-Some}

-- the page that stands there
entry : (c : In-Some) → (p : Page) × (slice_get c.args.index.now.pages.items c.args.at ≡ Some (c.in-Some.page, p))
    × (p.live ≡ c.in-Some.live)
entry c = entry_with_bits c.args.index.now.pages.items c.args.at c.in-Some.page c.in-Some.live (sym c.bits_at.ensures ∙ c.in-Some.is)

number : (c : In-Some) → page_at c.args.index.now.pages.items c.args.at ≡ Some c.in-Some.page
number c = ap (option_map (λ e. e.0)) (entry c).1

pub first_on-requires-clause-small : goal.first_on-requires-clause-small
first_on-requires-clause-small c =
    let o = c.requires.in_order in
    let within = within_here 0 c.args.at c.args.index.now.end c.args.index.now.pages.items c.in-Some.page o.rising (number c) in
    omega (arith, within.1, o.small)

pub first_on-requires-clause-within : goal.first_on-requires-clause-within
first_on-requires-clause-within c = c.requires.within c.in-Some.page (number c)

pub returns-in-Some-clause-first : goal.returns-in-Some-clause-first
returns-in-Some-clause-first c = λ page is.
    let e = entry c.before in
    let pages = c.args.index.now.pages.items in
    let same : c.in-Some.page ≡ page = same_Some _ _ (sym (number c.before) ∙ is) in
    let there = value_here 0 c.args.at c.args.index.now.end pages c.in-Some.page e.0 c.requires.in_order.rising e.1 in
    subst (λ m. IsFirst (key_at pages) (max c.args.number (m * 64)) (m * 64 + 64) c.first_on.result) same
    (first_of_page pages c.in-Some.page c.args.number e.0 c.first_on.result there (c.first_on.ensures.first e.0 e.2))
