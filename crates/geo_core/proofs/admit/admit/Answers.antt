use Rattle.std.proofs.Common.{refl, sym, subst, arith}
use Rattle.geo_state.specs.declared.state.State.{State}
use Rattle.geo_core.specs.declared.refusal.ApplyRefusal.TheVariants as refusals
use Rattle.geo_core.specs.Goes.{IsReady}
use Rattle.geo_core.specs.Running.{seen}
use Rattle.geo_core.proofs.Admits.{not_ok, log_few}
use Rattle.geo_core.proofs.Meshes.{mesh_stands}
use Rattle.geo_core.proofs.Applying.{other, other_mesh, other_seen, other_admitted, other_full, other_wanting, refused_by, refused_found, pays_room, pays_place, pays_found}
use Rattle.geo_core.proofs.admit.admit.Goals as goal

pub found_against-requires-clause-stands : goal.found_against-requires-clause-stands
found_against-requires-clause-stands g c = mesh_stands c.args.running.now c.requires.mesh

pub decide_step-decision-requires-clause-stands : goal.decide_step-decision-requires-clause-stands
decide_step-decision-requires-clause-stands g c = mesh_stands c.args.running.now c.requires.mesh

-- what was found is what the step answers in the world of the log
pub returns-in-Some-clause-refused : goal.returns-in-Some-clause-refused
returns-in-Some-clause-refused g c =
    let found =
    refused_found c.args.running.now c.requires.mesh c.args.seat c.args.step.now c.in-Some.found c.in-Some.ensures in
    (found, refl)

-- a step that pays off is enabled, so nothing is against it
pub returns-in-Some-clause-sure : goal.returns-in-Some-clause-sure
returns-in-Some-clause-sure g c = λ pays.
    absurd
    (pays_found c.args.running.now c.requires.mesh c.args.seat c.args.step.now c.in-Some.found c.in-Some.ensures pays)

-- what was decided left the state as it was, so this is the same mesh
pub places_after-owed-requires-clause-mesh : goal.places_after-owed-requires-clause-mesh
places_after-owed-requires-clause-mesh g c =
    other_mesh c.args.running.now c.requires.mesh c.decide_step-decision.new.state c.args.running.now.log
    c.decide_step-decision.ensures.same refl (omega arith)

pub places_after-owed-requires-clause-ready : goal.places_after-owed-requires-clause-ready
places_after-owed-requires-clause-ready g c =
    let r = c.args.running.now in
    subst
    (λ (s : State). IsReady r.plan.commands r.left s c.args.step.now c.decide_step-decision.result)
    (sym c.decide_step-decision.ensures.same) c.decide_step-decision.ensures.ready

-- the log has at most so many entries
pub overflow_sub-places : goal.overflow_sub-places
overflow_sub-places g c = let few = log_few c.args.running.now c.requires.mesh in omega (arith, few)

-- Each way out from here: deciding leaves the state, making a place adds room alone, so the mesh is the same
pub returns-then-places-owed-clause-mesh : goal.returns-then-places-owed-clause-mesh
returns-then-places-owed-clause-mesh g c =
    other_mesh c.args.running.now c.requires.mesh c.decide_step-decision.new.state c.args.running.now.log
    c.decide_step-decision.ensures.same refl (omega arith)

-- nothing is against the step, and it has no place for what is owed
pub returns-then-places-owed-clause-refused : goal.returns-then-places-owed-clause-refused
returns-then-places-owed-clause-refused g c =
    other_full c.args.running.now c.requires.mesh c.decide_step-decision.new.state c.args.running.now.log
    c.decide_step-decision.ensures.same refl c.args.seat c.args.step.now
    c.decide_step-decision.result c.places_after-owed.result c.in_default.is c.found_against.ensures
    c.decide_step-decision.ensures.ready c.places_after-owed.ensures (omega arith)

-- a step that pays off owes fewer places than before, so the place of its entry was kept for it
pub returns-then-places-owed-clause-sure : goal.returns-then-places-owed-clause-sure
returns-then-places-owed-clause-sure g c = λ pays.
    let place =
    pays_place c.args.running.now c.requires.mesh c.args.seat c.args.step.now c.places_after-owed.result
    c.places_after-owed.ensures pays in
    absurd (omega (arith, place))

pub returns-in_err-reserve-clause-mesh : goal.returns-in_err-reserve-clause-mesh
returns-in_err-reserve-clause-mesh g c =
    other_mesh c.args.running.now c.requires.mesh c.decide_step-decision.new.state c.reserve.new.self
    c.decide_step-decision.ensures.same c.reserve.ensures.entries c.reserve.ensures.room_stays

pub returns-in_err-reserve-clause-same : goal.returns-in_err-reserve-clause-same
returns-in_err-reserve-clause-same g c =
    other_seen c.args.running.now c.requires.mesh c.decide_step-decision.new.state c.reserve.new.self
    c.decide_step-decision.ensures.same c.reserve.ensures.entries

-- it has its place, and memory is wanting
pub returns-in_err-reserve-clause-refused : goal.returns-in_err-reserve-clause-refused
returns-in_err-reserve-clause-refused g c =
    refused_by c.from_residual.result refusals.NoMemory (seen c.args.running.now)
    (seen (other c.args.running.now c.requires.mesh c.decide_step-decision.new.state c.reserve.new.self
    c.decide_step-decision.ensures.same c.reserve.ensures.entries)) c.args.seat c.args.step.now
    c.from_residual.ensures.1
    (other_wanting c.args.running.now c.requires.mesh c.decide_step-decision.new.state c.reserve.new.self
    c.decide_step-decision.ensures.same c.reserve.ensures.entries c.args.seat c.args.step.now
    c.decide_step-decision.result c.places_after-owed.result c.in_default.is c.found_against.ensures
    c.decide_step-decision.ensures.ready c.places_after-owed.ensures (omega arith))

pub returns-in_err-reserve-clause-sure : goal.returns-in_err-reserve-clause-sure
returns-in_err-reserve-clause-sure g c = λ pays.
    let room =
    pays_room c.args.running.now c.requires.mesh c.args.seat c.args.step.now c.places_after-owed.result
    c.places_after-owed.ensures pays in
    let ok = c.reserve.ensures.had_room room in
    absurd (not_ok _ _ c.in_err-reserve.was ok)

pub returns-clause-mesh : goal.returns-clause-mesh
returns-clause-mesh g c =
    other_mesh c.args.running.now c.requires.mesh c.decide_step-decision.new.state c.reserve.new.self
    c.decide_step-decision.ensures.same c.reserve.ensures.entries c.reserve.ensures.room_stays

pub returns-clause-same : goal.returns-clause-same
returns-clause-same g c =
    other_seen c.args.running.now c.requires.mesh c.decide_step-decision.new.state c.reserve.new.self
    c.decide_step-decision.ensures.same c.reserve.ensures.entries

-- nothing is against the step, and the log has its place and those that are owed after it
pub returns-clause-admitted : goal.returns-clause-admitted
returns-clause-admitted g c =
    other_admitted c.args.running.now c.requires.mesh c.decide_step-decision.new.state c.reserve.new.self
    c.decide_step-decision.ensures.same c.reserve.ensures.entries c.args.seat c.args.step.now
    c.decide_step-decision.result c.places_after-owed.result c.in_default.is c.found_against.ensures
    c.decide_step-decision.ensures.ready c.places_after-owed.ensures (c.in_ok-reserve.ensures.room, omega arith)
