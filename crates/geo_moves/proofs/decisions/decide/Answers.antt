use Rattle.std.proofs.Common.{sym, subst}
use Rattle.geo_state.specs.World.{world}
use Rattle.geo_moves.specs.Decisions.{IsDecided}
use Rattle.geo_moves.proofs.Doing.{no_decision, open_decided}
use Rattle.geo_moves.proofs.decisions.decide.Goals as goal

-- what refuses the open is what the model answers to it
pub returns-in-Open-clause-decided : goal.returns-in-Open-clause-decided
returns-in-Open-clause-decided g c =
    open_decided c.args.state.now c.args.actor c.args.command.now _ _ _ c.open_refusal.result c.in-Open.is
    c.open_refusal.ensures.answer

pub returns-in-Close-clause-decided : goal.returns-in-Close-clause-decided
returns-in-Close-clause-decided g c =
    subst (λ k. IsDecided c.args.state.now c.args.actor k c.close_decision.result) (sym c.in-Close.is)
    c.close_decision.ensures

pub returns-in_default-clause-decided : goal.returns-in_default-clause-decided
returns-in_default-clause-decided g c actors log =
    no_decision (world actors log c.args.state.now) c.args.actor c.args.command.now c.in_default.not-Open
    c.in_default.not-Close
