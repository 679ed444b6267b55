use Rattle.std.specs.Prelude.{Option}
use Rattle.std.proofs.Common.{refl, subst}
use Rattle.geo_model.specs.declared.step.Found.{Found}
use Rattle.geo_session.specs.declared.refusal.SessionRefusal.TheVariants as refusals
use Rattle.geo_session.specs.Live.{session_view}
use Rattle.geo_session.specs.Moves.{IsFoundAgainst}
use Rattle.geo_session.proofs.Answered.{answers_refusal, enabled_found, never_refused, not_ok, refused_found, same_seen, raised_by, same_session, session_stands, step_ends}
use Rattle.geo_session.proofs.making.make.Goals as goal

pub found_against-requires : goal.found_against-requires
found_against-requires g c = record { stands = session_stands c.args.live.now c.requires.session }

-- something is against the step
pub returns-in-Some-clause-answer : goal.returns-in-Some-clause-answer
returns-in-Some-clause-answer g c = (
  refused_found c.args.live.now.actors c.args.live.now.state c.args.seat c.args.step c.in-Some.found
      c.in-Some.ensures,
  refl,
)

pub returns-in-Some-clause-sure : goal.returns-in-Some-clause-sure
returns-in-Some-clause-sure g c = λ sure.
    absurd
    (never_refused (session_view c.args.live.now).world c.args.seat c.args.step c.in-Some.found
    (refused_found c.args.live.now.actors c.args.live.now.state c.args.seat c.args.step c.in-Some.found
    c.in-Some.ensures) sure)

pub turn-requires-clause-stands : goal.turn-requires-clause-stands
turn-requires-clause-stands g c = session_stands c.args.live.now c.requires.session

pub turn-requires-clause-found : goal.turn-requires-clause-found
turn-requires-clause-found g c =
    subst (λ (f : Option Found). IsFoundAgainst c.args.live.now.actors c.args.live.now.state c.args.seat c.args.step f)
    c.in_default.is c.found_against.ensures

-- memory was wanting
pub returns-in_err-outcome-clause-session : goal.returns-in_err-outcome-clause-session
returns-in_err-outcome-clause-session g c =
    same_session c.args.live.now c.turn.new.state c.requires.session c.in_err-outcome.ensures.same
    c.turn.ensures.kept c.turn.ensures.bytes

pub returns-in_err-outcome-clause-answer : goal.returns-in_err-outcome-clause-answer
returns-in_err-outcome-clause-answer g c =
    answers_refusal c.from_residual.result refusals.NoMemory (session_view c.args.live.now).world
    (session_view c.args.live.now)
    (session_view (record c.args.live.now { state = c.turn.new.state })) c.args.seat c.args.step
    c.from_residual.ensures.1 (
      enabled_found c.args.live.now.actors c.args.live.now.state c.args.seat c.args.step
          (subst (λ (f : Option Found). IsFoundAgainst c.args.live.now.actors c.args.live.now.state c.args.seat
          c.args.step f)
          c.in_default.is c.found_against.ensures),
      same_seen c.args.live.now c.turn.new.state c.requires.session c.in_err-outcome.ensures.same,
    )

pub returns-in_err-outcome-clause-sure : goal.returns-in_err-outcome-clause-sure
returns-in_err-outcome-clause-sure g c = λ sure. absurd (not_ok _ _ c.in_err-outcome.was (c.turn.ensures.sure sure))

-- the step was made, and is counted
pub returns : goal.returns
returns g c =
    let raised =
    raised_by c.args.live.now c.args.seat c.args.step c.in_ok-outcome.outcome c.in_default.is c.found_against.ensures
    c.next_generation-live.result c.is_graph_step-works.result c.is_up-rises.result c.is_of_graph.result
    c.is_graph_step-works.ensures c.is_up-rises.ensures c.is_of_graph.ensures c.next_generation-live.ensures in
    let it =
    step_ends c.args.live.now c.turn.new.state c.one_more-live.result c.next_generation-live.result c.requires.session
    c.args.seat c.args.step c.in_ok-outcome.outcome c.turn.ensures.kept c.turn.ensures.bytes
    c.in_ok-outcome.ensures.made c.one_more-live.ensures raised in
    record { session = it.session; answer = it.made; sure = λ sure. refl }
