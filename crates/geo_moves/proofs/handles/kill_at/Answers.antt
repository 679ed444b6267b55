use Rattle.std.specs.Prelude.{◌∷◌, ◌+◌, ◌≡◌, IsSome}
use Rattle.std.proofs.Common.{sym, subst}
use Rattle.geo_model.specs.Topology.{consumer_at}
use Rattle.geo_state.specs.declared.state.State.{State}
use Rattle.geo_moves.proofs.Dying.{dying_left, killing-begins, dying-lives}
use Rattle.geo_moves.proofs.handles.kill_at.Goals as goal

-- none is dead of it yet, and all are left
pub loop-cons-init : goal.loop-cons-init
loop-cons-init c = record {
  far = killing-begins c.args.state.now c.args.prov;
  kept = c.requires.stands.kept;
}

-- the consumer is attached to the provider, and a handle that dies changes no graph
pub kill-requires-clause-lives : goal.kill-requires-clause-lives
kill-requires-clause-lives c =
    subst (λ (z : State). IsSome (consumer_at z.topo.topology c.in-Some.cons)) (sym c.loop-cons.invariant.far.rest)
    (dying-lives c.args.state.now c.requires.stands.firm c.args.prov c.loop-cons.from c.in-Some.cons
    (dying_left c.args.state.now.topo.topology c.args.prov (c.in-Some.cons + 1))
    (subst (λ (z : State). dying_left z.topo.topology c.args.prov c.loop-cons.from
    ≡ c.in-Some.cons ∷ dying_left z.topo.topology c.args.prov (c.in-Some.cons + 1)) c.loop-cons.invariant.far.rest
    c.in-Some.ensures.next))
