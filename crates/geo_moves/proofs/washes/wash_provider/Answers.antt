use Rattle.std.specs.Prelude.{◌-◌}
use Rattle.std.proofs.Common.{refl, arith}
use Rattle.geo_model.specs.declared.step.WashWork.TheVariants as works
use Rattle.geo_moves.proofs.Washed.{provider-stands, washed-world, one-provider-less, provider-kept}
use Rattle.geo_moves.proofs.washes.wash_provider.Goals as goal

pub returns-clause-made : goal.returns-clause-made
returns-clause-made c =
    washed-world c.args.state.now c.requires.stands c.wash.new.topo c.wash.new.queue
    (record c.args.state.now {
      topo = c.wash.new.topo;
      queue = c.wash.new.queue;
      providers = c.args.state.now.providers - 1;
    })
    (works.Provider c.args.prov) refl refl c.wash.ensures.washed

-- the provider stands, so it was counted
pub overflow_sub-state : goal.overflow_sub-state
overflow_sub-state c =
    let less = one-provider-less c.args.state.now c.requires.stands c.wash.new.topo c.wash.new.queue
    c.wash.ensures.memory c.wash.ensures.kept c.args.prov
    (provider-stands c.args.state.now c.requires.stands c.args.prov c.requires.due)
    c.wash.ensures.mesh in
    omega (arith, less)

-- nothing is attached to the provider, so it had no count; its events go, and it is counted no more
pub returns-clause-kept : goal.returns-clause-kept
returns-clause-kept c =
    let stands = provider-stands c.args.state.now c.requires.stands c.args.prov c.requires.due in
    let less = one-provider-less c.args.state.now c.requires.stands c.wash.new.topo c.wash.new.queue
    c.wash.ensures.memory c.wash.ensures.kept c.args.prov stands c.wash.ensures.mesh in
    provider-kept c.args.state.now c.requires.stands c.wash.new.topo c.wash.new.queue
    c.wash.ensures.memory c.wash.ensures.kept c.args.prov stands c.wash.ensures.mesh c.wash.ensures.washed
    c.requires.due.free (c.args.state.now.providers - 1) (omega (arith, less))
