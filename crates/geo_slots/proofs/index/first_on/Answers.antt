use Rattle.std.proofs.Common.{Some, None, subst}
use Rattle.geo_slots.specs.Pages.{IsFirst, key_in}
use Rattle.geo_slots.proofs.KeyLemmas.{first_on_page}
use Rattle.geo_slots.proofs.index.first_on.Goals as goal

pub returns-in-Some-clause-first : goal.returns-in-Some-clause-first
returns-in-Some-clause-first c = λ slots is.
    first_on_page c.args.page c.args.number slots (Some c.in-Some.found) c.requires.within
    (subst (λ from. IsFirst (key_in slots) from 64 (Some c.in-Some.found)) c.saturating_sub.ensures
    (c.in-Some.ensures.first slots is))

pub returns-in-None-clause-first : goal.returns-in-None-clause-first
returns-in-None-clause-first c = λ slots is.
    first_on_page c.args.page c.args.number slots None c.requires.within
    (subst (λ from. IsFirst (key_in slots) from 64 None) c.saturating_sub.ensures (c.in-None.ensures.first slots is))
