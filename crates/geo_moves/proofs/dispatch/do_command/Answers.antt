use Rattle.std.proofs.Common.{arith, refl, subst}
use Rattle.geo_model.specs.Commands.{do_command}
use Rattle.geo_moves.specs.Decisions.{IsDecided}
use Rattle.geo_moves.proofs.Doing.{logged_same, never_closes, only_closes}
use Rattle.geo_moves.proofs.dispatch.do_command.Goals as goal

pub open_decided-requires-clause-grant : goal.open_decided-requires-clause-grant
open_decided-requires-clause-grant g c = (rw c.in-Open.is at c.requires.is_command).2

pub open_decided-requires-clause-decided : goal.open_decided-requires-clause-decided
open_decided-requires-clause-decided g c =
    subst (λ k. IsDecided c.args.state.now c.args.actor k c.args.decision) c.in-Open.is c.requires.decided

-- For each command: the model does what the call of its arm does
pub returns-in-Open-clause-does : goal.returns-in-Open-clause-does
unfolding do_command
returns-in-Open-clause-does g c log = rw c.in-Open.is (c.open_decided.ensures.does log)

pub returns-in-Read-clause-does : goal.returns-in-Read-clause-does
unfolding do_command
returns-in-Read-clause-does g c log = rw c.in-Read.is (c.ask.ensures.does log)

pub returns-in-Write-clause-does : goal.returns-in-Write-clause-does
unfolding do_command
returns-in-Write-clause-does g c log = rw c.in-Write.is (c.write.ensures.does log)

pub returns-in-Delete-clause-does : goal.returns-in-Delete-clause-does
unfolding do_command
returns-in-Delete-clause-does g c log = rw c.in-Delete.is (c.ask-in-Delete.ensures.does log)

pub returns-in-Flush-clause-does : goal.returns-in-Flush-clause-does
unfolding do_command
returns-in-Flush-clause-does g c log = rw c.in-Flush.is (c.ask-in-Flush.ensures.does log)

pub returns-in-Close-clause-does : goal.returns-in-Close-clause-does
unfolding do_command
returns-in-Close-clause-does g c log = rw c.in-Close.is (c.close.ensures.made log)

pub returns-in-Sync-clause-does : goal.returns-in-Sync-clause-does
unfolding do_command
returns-in-Sync-clause-does g c log actors = rw (c.in-Sync.is, c.done.ensures) refl

pub returns-in-Settle-clause-does : goal.returns-in-Settle-clause-does
unfolding do_command
returns-in-Settle-clause-does g c log actors = rw (c.in-Settle.is, c.done-in-Settle.ensures) refl

pub returns-in-Mesh-clause-does : goal.returns-in-Mesh-clause-does
unfolding do_command
returns-in-Mesh-clause-does g c log = rw c.in-Mesh.is (c.list.ensures log)

pub returns-in-Close-clause-logged : goal.returns-in-Close-clause-logged
returns-in-Close-clause-logged g c = logged_same c.args.state.now c.close.new.state c.close.ensures.traffic

-- For each command that may want memory: it is no close
pub returns-in-Open-clause-no_memory : goal.returns-in-Open-clause-no_memory
returns-in-Open-clause-no_memory g c =
    never_closes c.args.state.now c.args.actor c.args.command.now _ c.args.decision c.requires.decided
    c.in-Open.is refl

pub returns-in-Read-clause-no_memory : goal.returns-in-Read-clause-no_memory
returns-in-Read-clause-no_memory g c =
    never_closes c.args.state.now c.args.actor c.args.command.now _ c.args.decision c.requires.decided
    c.in-Read.is refl

pub returns-in-Write-clause-no_memory : goal.returns-in-Write-clause-no_memory
returns-in-Write-clause-no_memory g c =
    never_closes c.args.state.now c.args.actor c.args.command.now _ c.args.decision c.requires.decided
    c.in-Write.is refl

pub returns-in-Delete-clause-no_memory : goal.returns-in-Delete-clause-no_memory
returns-in-Delete-clause-no_memory g c =
    never_closes c.args.state.now c.args.actor c.args.command.now _ c.args.decision c.requires.decided
    c.in-Delete.is refl

pub returns-in-Flush-clause-no_memory : goal.returns-in-Flush-clause-no_memory
returns-in-Flush-clause-no_memory g c =
    never_closes c.args.state.now c.args.actor c.args.command.now _ c.args.decision c.requires.decided
    c.in-Flush.is refl

pub returns-in-Mesh-clause-no_memory : goal.returns-in-Mesh-clause-no_memory
returns-in-Mesh-clause-no_memory g c =
    never_closes c.args.state.now c.args.actor c.args.command.now _ c.args.decision c.requires.decided
    c.in-Mesh.is refl

pub returns-in-Insert-clause-no_memory : goal.returns-in-Insert-clause-no_memory
returns-in-Insert-clause-no_memory g c closes =
    absurd
    (only_closes c.args.state.now c.args.actor c.args.command.now c.args.decision c.requires.decided closes
    (λ name same. grind arith))
