use Rattle.std.proofs.Common.{◌≡◌, Some, sym, subst}
use Rattle.geo_base.proofs.Options.{at-found}
use Rattle.geo_model.specs.Topology.{provider_at}
use Rattle.geo_taste.specs.Accepting.{accepted, IsAccepted}
use Rattle.geo_taste.specs.Accepts.{MayAccept}
use Rattle.geo_taste.specs.Making.{both, queued}
use Rattle.geo_taste.specs.Standing.{CanStandOn}
use Rattle.geo_taste.specs.Judging.{IsTakenAs, judged_of}
use Rattle.geo_taste.proofs.Taking.{some_stands, taken_as}
use Rattle.geo_taste.proofs.step.take_shape.Goals as goal

-- a taste goes on only over a provider without an error, and its rank is low enough for a geom above it
pub accept-requires-clause-stands : goal.accept-requires-clause-stands
accept-requires-clause-stands c =
    subst (λ n. CanStandOn c.args.topo.now.topology n) (sym c.provider-prov.ensures)
    (some_stands c.args.topo.now.topology c.args.taste.now c.requires.goes c.requires.low)

-- the provider that was looked up is the tasted one, and the class was ended whether it made something or declined
pub returns-clause-taken : goal.returns-clause-taken
returns-clause-taken c p found =
    let m = both c.args.topo.now c.args.queue.now in
    let s = c.args.taste.now in
    let shape = c.args.shape.now in
    let t = c.accept.new.topo in
    let q = c.accept.new.queue in
    let answer = c.in_ok-accepted.accepted in
    subst (λ j. IsTakenAs m s p shape t q c.end_class.new.self j) (sym c.judged_of.ensures)
    (subst (λ z. IsTakenAs m s p shape t q z (judged_of answer)) (sym c.end_class.ensures)
    (taken_as m s shape t q c.requires.settled c.requires.tasting c.in_ok-accepted.ensures.sound c.requires.place
    c.requires.idle p found answer
    (at-found (provider_at c.args.topo.now.topology c.provider-prov.result)
    (λ x. IsAccepted answer t q m (accepted m x shape) (MayAccept (queued m) x shape)) p
    (subst (λ n. provider_at c.args.topo.now.topology n ≡ Some p) (sym c.provider-prov.ensures) found)
    c.in_ok-accepted.ensures.made)))
