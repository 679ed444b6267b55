use Rattle.std.proofs.Common.{refl, [], ap, ◌∙◌}
use Rattle.geo_model.specs.declared.step.Step.TheVariants as steps
use Rattle.geo_session.specs.declared.refusal.SessionRefusal.TheVariants as refusals
use Rattle.geo_session.specs.Generation.{next_generation}
use Rattle.geo_session.specs.Growth.{with_command}
use Rattle.geo_session.specs.Live.{session_view}
use Rattle.geo_session.proofs.Answered.{answers_refusal, closes_enabled, closes_given, command_ends, done_given, enabled_given, none_given_by, not_ok, raised_given, refused_given, same_seen, same_session, session_names, session_stands}
use Rattle.geo_session.proofs.making.command.Goals as goal

pub found_given-requires : goal.found_given-requires
found_given-requires g c = record { stands = session_stands c.args.live.now c.requires.session }

-- something is against the command
pub returns-in-Some-clause-answer : goal.returns-in-Some-clause-answer
returns-in-Some-clause-answer g c =
    (refused_given c.args.live.now c.args.line.now c.in-Some.found c.in-Some.ensures, refl)

pub returns-in-Some-clause-sure : goal.returns-in-Some-clause-sure
returns-in-Some-clause-sure g c = λ sure.
    absurd
    (closes_enabled (with_command c.args.line.now (session_view c.args.live.now).world) c.args.line.now.actor
    c.in-Some.found
    (refused_given c.args.live.now c.args.line.now c.in-Some.found c.in-Some.ensures) sure)

pub go-requires-clause-stands : goal.go-requires-clause-stands
go-requires-clause-stands g c = session_stands c.args.live.now c.requires.session

pub go-requires-clause-named : goal.go-requires-clause-named
go-requires-clause-named g c = session_names c.args.live.now c.requires.session

-- memory was wanting
pub returns-in_err-outcome-clause-session : goal.returns-in_err-outcome-clause-session
returns-in_err-outcome-clause-session g c =
    same_session c.args.live.now c.go.new.state c.requires.session c.in_err-outcome.ensures.same
    c.go.ensures.kept (c.go.ensures.logged [] c.requires.session.bytes)

pub returns-in_err-outcome-clause-answer : goal.returns-in_err-outcome-clause-answer
returns-in_err-outcome-clause-answer g c =
    let none = none_given_by c.args.live.now c.args.line.now c.in_default.is c.found_given.ensures in
    answers_refusal c.from_residual.result refusals.NoMemory
    (with_command c.args.line.now (session_view c.args.live.now).world) (session_view c.args.live.now)
    (session_view (record c.args.live.now { state = c.go.new.state })) 0 (steps.Go c.args.line.now.actor)
    c.from_residual.ensures.1 (
      enabled_given c.args.live.now c.args.line.now none,
      same_seen c.args.live.now c.go.new.state c.requires.session c.in_err-outcome.ensures.same,
    )

pub returns-in_err-outcome-clause-sure : goal.returns-in_err-outcome-clause-sure
returns-in_err-outcome-clause-sure g c = λ sure.
    let none = none_given_by c.args.live.now c.args.line.now c.in_default.is c.found_given.ensures in
    absurd
    (not_ok _ _ c.in_err-outcome.was (c.go.ensures.sure (closes_given c.args.live.now c.args.line.now none sure)))

-- the command was made, and is counted
pub returns : goal.returns
returns g c =
    let none = none_given_by c.args.live.now c.args.line.now c.in_default.is c.found_given.ensures in
    let done =
    done_given c.args.live.now c.args.line.now none c.go.new.state c.in_ok-outcome.outcome
    (c.in_ok-outcome.ensures.does []) in
    let raised =
    raised_given c.args.live.now c.args.line.now none c.next_generation-live.result c.in_ok-outcome.outcome
    (c.next_generation-live.ensures
    ∙ ap (next_generation c.args.live.now.generation) c.is_graph_command.ensures) in
    let it =
    command_ends c.args.live.now c.go.new.state c.one_more-live.result c.next_generation-live.result
    c.requires.session c.args.line.now c.requires.is_command c.in_ok-outcome.outcome c.go.ensures.kept
    (c.go.ensures.logged [] c.requires.session.bytes) done c.one_more-live.ensures raised in
    record { session = it.session; answer = it.made; sure = λ sure. refl }
