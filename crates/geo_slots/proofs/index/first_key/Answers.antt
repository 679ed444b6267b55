use Rattle.std.proofs.Common.{◌+◌, ◌/◌, refl, arith}
use Rattle.geo_slots.proofs.PlaceLemmas.{before_here}
use Rattle.geo_slots.proofs.KeyLemmas.{first_here, first_next, first_from_gap}
use Rattle.geo_slots.proofs.index.first_key.Goals as goal

pub first_at-requires-in-None-clause-within : goal.first_at-requires-in-None-clause-within
first_at-requires-in-None-clause-within c = λ page is.
    let before = before_here 0 (c.in-Ok.at + 1) c.args.index.now.end c.args.index.now.pages.items page c.requires.rising is
    c.in-Ok.at (c.args.number / 64) (omega arith) c.in-Ok.ensures in
    omega (arith, before)

pub returns-in-Some : goal.returns-in-Some
returns-in-Some c = λ next a.
    first_here c.args.index.now.pages.items c.args.index.now.end next (c.args.number / 64) c.args.number c.in-Some.found a refl
    (c.in-Some.ensures.first (c.args.number / 64) c.in-Ok.ensures)

pub returns-in-None : goal.returns-in-None
returns-in-None c = λ next a.
    first_next c.args.index.now.pages.items c.args.index.now.end next c.args.number c.in-Ok.at c.first_at-in-None.result a
    c.in-Ok.ensures (c.in-None.ensures.first (c.args.number / 64) c.in-Ok.ensures) c.first_at-in-None.ensures.past c.first_at-in-None.ensures.first c.first_at-in-None.ensures.none

pub returns-in-Err : goal.returns-in-Err
returns-in-Err c = λ next a.
    first_from_gap c.args.index.now.pages.items c.args.index.now.end next c.args.number c.in-Err.at c.first_at-in-Err.result a
    c.in-Err.ensures c.first_at-in-Err.ensures.past c.first_at-in-Err.ensures.first c.first_at-in-Err.ensures.none
