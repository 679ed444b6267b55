use Rattle.std.proofs.Common.{◌+◌, arith, length-take}
use Rattle.std.proofs.lemmas.Result.{err_from_is_err_and}
use Rattle.geo_io.proofs.Refusals.{IsErrOf-passed}
use Rattle.geo_io.proofs.SourceLemmas.{GivesAtMost-same, GivesAtMost-more}
use Rattle.geo_io.proofs.reading.read_through.Goals as goal

-- a read that fails takes nothing, and what was taken before is within the limit
pub returns-in_err-count-clause-fault_taken : goal.returns-in_err-count-clause-fault_taken
returns-in_err-count-clause-fault_taken g c =
    let p = err_from_is_err_and c.from_residual.result c.from_residual.ensures.1 in
    rw (p.1, p.2)
    (λ fault. GivesAtMost-same (g.S.Source.view c.args.source.now) (g.S.Source.view c.loop-turn.source)
    (g.S.Source.view c.read_piece.new.source) c.loop-turn.bytes.items c.args.limit
    c.loop-turn.invariant.taken (omega arith) (c.in_err-count.ensures.fault_left (IsErrOf-passed _ _ fault)))

-- what was lost is one read, which asked for no more than up to one byte past the limit
pub returns-in_err-count-clause-lost : goal.returns-in_err-count-clause-lost
returns-in_err-count-clause-lost g c =
    let p = err_from_is_err_and c.from_residual.result c.from_residual.ensures.1 in
    rw (p.1, p.2)
    (λ lost. GivesAtMost-more (g.S.Source.view c.args.source.now) (g.S.Source.view c.loop-turn.source)
    (g.S.Source.view c.read_piece.new.source) c.loop-turn.bytes.items _ (c.args.limit + 1)
    c.loop-turn.invariant.taken (c.in_err-count.ensures.lost (IsErrOf-passed _ _ lost))
    (omega (arith, length-take c.min-room.result c.loop-turn.piece)))
