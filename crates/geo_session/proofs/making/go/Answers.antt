use Rattle.std.specs.Prelude.{IfOk, OnErr}
use Rattle.std.proofs.Common.{sym, subst}
use Rattle.geo_model.specs.Commands.{do_command}
use Rattle.geo_laws_texts.specs.Naming.{HaveNames}
use Rattle.geo_moves.specs.Decisions.{IsDecided}
use Rattle.geo_state.specs.declared.state.State.{State}
use Rattle.geo_state.specs.Steps.{Does, SameWorld, Stands}
use Rattle.geo_state.specs.World.{HasBytes}
use Rattle.geo_session.proofs.making.go.Goals as goal

-- what was decided left the state as it was
pub do_command-requires-clause-stands : goal.do_command-requires-clause-stands
do_command-requires-clause-stands g c = subst Stands (sym c.decide-decision.ensures.same) c.requires.stands

pub do_command-requires-clause-named : goal.do_command-requires-clause-named
do_command-requires-clause-named g c =
    subst (λ (s : State). HaveNames s.topo.topology) (sym c.decide-decision.ensures.same) c.requires.named

pub do_command-requires-clause-decided : goal.do_command-requires-clause-decided
do_command-requires-clause-decided g c =
    subst (λ (s : State). IsDecided s c.args.line.now.actor c.args.line.now.command c.decide-decision.result)
    (sym c.decide-decision.ensures.same) c.decide-decision.ensures.decided

pub returns-clause-does : goal.returns-clause-does
returns-clause-does g c = λ log.
    subst
    (λ (s : State). IfOk c.do_command.result
    (λ o. Does (λ w. do_command w c.args.line.now.line c.args.line.now.actor c.args.line.now.command) log s
    c.do_command.new.state o))
    c.decide-decision.ensures.same (c.do_command.ensures.does log)

pub returns-clause-same : goal.returns-clause-same
returns-clause-same g c =
    subst (λ (s : State). OnErr c.do_command.result (SameWorld s c.do_command.new.state))
    c.decide-decision.ensures.same c.do_command.ensures.same

pub returns-clause-logged : goal.returns-clause-logged
returns-clause-logged g c = λ log has.
    c.do_command.ensures.logged log
    (subst (λ (s : State). HasBytes log s) (sym c.decide-decision.ensures.same) has)

pub returns-clause-sure : goal.returns-clause-sure
returns-clause-sure g c = λ closes.
    c.do_command.ensures.no_memory (closes c.decide-decision.result c.decide-decision.ensures.decided)
