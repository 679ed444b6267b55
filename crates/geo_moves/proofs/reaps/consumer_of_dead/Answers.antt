use Rattle.std.proofs.Common.{sym, ◌∙◌}
use Rattle.geo_moves.proofs.Stepping.{next-names, next-idle}
use Rattle.geo_moves.proofs.reaps.consumer_of_dead.Goals as goal

-- for both: a handle is noted as ready only while it has a consumer and nothing is out through it
pub unreachable-requires : goal.unreachable-requires
unreachable-requires c =
    let never = sym c.in_default.is ∙ c.consumer_of.ensures
    ∙ next-names c.args.state.now c.requires.stands c.args.id c.requires.next in
    absurd (cc)

pub returns : goal.returns
returns c =
    next-idle c.args.state.now c.requires.stands c.args.id c.requires.next c.in-Some.cons
    (sym c.in-Some.is ∙ c.consumer_of.ensures)
