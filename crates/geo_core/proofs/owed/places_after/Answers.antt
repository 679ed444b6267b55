use Rattle.std.proofs.Common.{◌+◌, ap, sym, subst, arith}
use Rattle.geo_model.specs.declared.step.Step.{Step}
use Rattle.geo_core.specs.Goes.{IsOwedAfter}
use Rattle.geo_core.specs.Mesh.{world_of}
use Rattle.geo_core.specs.Running.{seen}
use Rattle.geo_core.proofs.Making.{ready_go}
use Rattle.geo_core.proofs.Admits.{owed_few, owed_go, owed_none, owed_take, owed_deliver, owed_same}
use Rattle.geo_core.proofs.owed.places_after.Goals as goal

pub places_owed-now-requires : goal.places_owed-now-requires
places_owed-now-requires c = owed_few c.args.running.now c.requires.mesh

pub owed_after-requires-clause-few : goal.owed_after-requires-clause-few
owed_after-requires-clause-few c = owed_few c.args.running.now c.requires.mesh

-- a Go owes what its command does, by what was decided of it
pub returns-in-Some : goal.returns-in-Some
returns-in-Some c =
    let r = c.args.running.now in
    let ready = ready_go r.plan.commands r.left r.state c.in-Go.is c.in-Some.is c.requires.ready in
    subst (λ (st : Step). IsOwedAfter (world_of (seen r)) st c.owed_after.result) (sym c.in-Go.is)
    (owed_go r c.requires.mesh c.in-Go.actor c.in-Some.decision c.owed_after.result ready c.owed_after.ensures)

-- nothing was decided, so there is no next command, and no such Go is enabled
pub returns-in-None : goal.returns-in-None
returns-in-None c =
    let r = c.args.running.now in
    let ready = ready_go r.plan.commands r.left r.state c.in-Go.is c.in-None.is c.requires.ready in
    subst (λ (st : Step). IsOwedAfter (world_of (seen r)) st c.places_owed-now.result) (sym c.in-Go.is)
    (owed_none r c.requires.mesh c.in-Go.actor c.places_owed-now.result ready)

-- a Take makes a bio Busy, whose Deliver is owed from now on
pub returns-in-Take : goal.returns-in-Take
returns-in-Take c =
    let r = c.args.running.now in
    subst (λ (st : Step). IsOwedAfter (world_of (seen r)) st (c.places_owed-now.result + 1)) (sym c.in-Take.is)
    (owed_take r c.requires.mesh c.in-Take.disk c.in-Take.bio (c.places_owed-now.result + 1)
    (ap (λ n. n + 1) c.places_owed-now.ensures.owed))

-- a Deliver that is enabled pays one of the places, so there is one
pub returns-in-Deliver : goal.returns-in-Deliver
returns-in-Deliver c =
    let r = c.args.running.now in
    subst (λ (st : Step). IsOwedAfter (world_of (seen r)) st c.saturating_sub.result) (sym c.in-Deliver.is)
    (owed_deliver r c.requires.mesh c.in-Deliver.bio c.saturating_sub.result c.in-Deliver.got
    (let less = c.saturating_sub.ensures in let same = c.places_owed-now.ensures.owed in omega (arith, less, same)))

-- each other step begins to owe no place, and pays none
pub returns-in_default : goal.returns-in_default
returns-in_default c =
    owed_same c.args.running.now c.requires.mesh c.args.step.now c.in_default.not-Go c.in_default.not-Take
    c.in_default.not-Deliver c.places_owed-now.result c.places_owed-now.ensures.owed
