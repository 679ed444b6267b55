use Rattle.std.proofs.Common.{ap, length}
use Rattle.geo_base.proofs.Options.{on_error}
use Rattle.geo_state.specs.Steps.{SameWorld}
use Rattle.geo_moves.proofs.Against.{same_moved}
use Rattle.geo_moves.proofs.Started.{split_there}
use Rattle.geo_moves.proofs.starts.split_by.Goals as goal

-- the bios and their next number are as before, and nothing else is part of the world
pub returns-in_err-first-clause-same : goal.returns-in_err-first-clause-same
returns-in_err-first-clause-same c =
    on_error (SameWorld c.args.state.now c.split.new.state) c.from_residual.result
    (same_moved c.args.state.now c.split.new.state c.split.ensures.only c.in_err-first.ensures.bios_stay
    c.in_err-first.ensures.next_stays)

-- the cut is the model's, so the children are too, from the number on that was next
pub returns-clause-started : goal.returns-clause-started
returns-clause-started c zs is =
    split_there c.args.state.now c.split.new.state c.args.bio c.args.cut.now zs c.in_ok-first.first _ is
    c.split.ensures.only c.in_ok-first.ensures.split c.in_ok-first.ensures.next c.in_ok-first.ensures.first
    (ap length c.items-count.ensures)
