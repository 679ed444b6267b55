use Rattle.std.proofs.Common.{sym, ◌∙◌}
use Rattle.geo_moves.proofs.Admitting.{found-there, counts-refuse, refusal-told, none-told, free-of}
use Rattle.geo_moves.proofs.opens.open_refusal.Goals as goal

pub could_grant-requires-clause-lives : goal.could_grant-requires-clause-lives
could_grant-requires-clause-lives g c =
    found-there c.args.state.now.topo.topology c.args.prov.now c.in-Some.found c.find.ensures.sound
    (sym c.find.ensures.found ∙ c.in-Some.is)

-- for both answers: the name is free and the provider found, so what refuses the counts refuses the open
pub returns-in-Ok-clause-answer : goal.returns-in-Ok-clause-answer
returns-in-Ok-clause-answer g c actors log =
    let free = free-of c.args.state.now c.args.actor c.args.name.now c.by_name.result c.is_some.result
    c.by_name.ensures.number c.is_some.ensures c.if-is_some.false in
    none-told _ c.could_grant.result _ c.could_grant.ensures.answer c.in-Ok.is
    ∙ counts-refuse c.args.state.now actors log c.args.actor c.args.name.now c.args.prov.now c.args.grant
    c.requires.kept free c.in-Some.found (sym c.find.ensures.found ∙ c.in-Some.is)

pub returns-in-Err-clause-answer : goal.returns-in-Err-clause-answer
returns-in-Err-clause-answer g c actors log =
    let free = free-of c.args.state.now c.args.actor c.args.name.now c.by_name.result c.is_some.result
    c.by_name.ensures.number c.is_some.ensures c.if-is_some.false in
    refusal-told _ c.could_grant.result c.in-Err.errno c.could_grant.ensures.answer c.in-Err.is
    ∙ counts-refuse c.args.state.now actors log c.args.actor c.args.name.now c.args.prov.now c.args.grant
    c.requires.kept free c.in-Some.found (sym c.find.ensures.found ∙ c.in-Some.is)
