use Rattle.std.specs.Prelude.{[]}
use Rattle.std.proofs.Common.{sym, ◌∙◌}
use Rattle.geo_moves.proofs.Settling.{none-to-reap}
use Rattle.geo_moves.proofs.reaps.next_dead.Goals as goal

-- a Reap is due, so a handle is noted as ready
pub unreachable-requires : goal.unreachable-requires
unreachable-requires c =
    let never = sym (c.requires.due [] [])
    ∙ none-to-reap c.args.state.now c.requires.kept [] [] (sym c.first_ready.ensures ∙ c.in_default.is) in
    absurd (cc)
