use Rattle.std.proofs.Common.{sym, ◌∙◌}
use Rattle.geo_state.specs.declared.state.State.{State}
use Rattle.geo_moves.proofs.Finding.{destroy-busy, destroy-done, found-lives, number-of}
use Rattle.geo_moves.proofs.destroys.destroy.Goals as goal

-- the geom is the first of the name that stands, and a provider of it has a count
pub returns-then-is_in_use-clause-does : goal.returns-then-is_in_use-clause-does
returns-then-is_in_use-clause-does c = λ log actors.
    let s : State = c.args.state.now in
    destroy-busy s s c.args.line c.refused-then-is_in_use.result actors log c.args.kind c.args.name.now
    c.requires.kept c.in-Some.geom (number-of _ c.in-Some.geom (sym c.in-Some.is ∙ c.named_geom.ensures))
    (sym c.is_in_use.ensures ∙ c.if-is_in_use.true) c.refused-then-is_in_use.ensures

pub wither_geom-requires-clause-lives : goal.wither_geom-requires-clause-lives
wither_geom-requires-clause-lives c =
    let s : State = c.args.state.now in
    found-lives s.topo.topology _ c.in-Some.geom
    (number-of _ c.in-Some.geom (sym c.in-Some.is ∙ c.named_geom.ensures))

-- no provider of the geom has a count, so it withers
pub returns-clause-does : goal.returns-clause-does
returns-clause-does c = λ log actors.
    let s : State = c.args.state.now in
    destroy-done s c.wither_geom.new.state c.args.line c.done.result actors log c.args.kind c.args.name.now
    c.requires.kept c.in-Some.geom (number-of _ c.in-Some.geom (sym c.in-Some.is ∙ c.named_geom.ensures))
    (sym c.is_in_use.ensures ∙ c.if-is_in_use.false) (c.wither_geom.ensures.withered actors log) c.done.ensures
