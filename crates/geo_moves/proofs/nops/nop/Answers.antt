use Rattle.std.proofs.Common.{Some, ap, sym, ◌∙◌}
use Rattle.geo_model.specs.World.{Nop}
use Rattle.geo_moves.proofs.Made.{below-of, below-sectors, nop-found, nop-free, nop-made, nop-named, nop-sized, nop-stands}
use Rattle.geo_moves.proofs.nops.nop.Goals as goal

-- the provider below was found in a firm world, so it has a sector size
pub nop_refusal-requires-clause-sector : goal.nop_refusal-requires-clause-sector
nop_refusal-requires-clause-sector c =
    below-sectors c.args.state.now c.requires.stands.firm
    (below-of c.args.state.now.topo.topology c.args.prov.now (sym c.in-Some.is ∙ c.below_named.ensures))

-- no test is against the nop, so the name with its tail is one
pub unreachable-requires : goal.unreachable-requires
unreachable-requires c =
    let found = nop-found c.args.state.now.topo.topology c.args.prov.now (sym c.in-Some.is ∙ c.below_named.ensures)
    c.with_tail.result c.with_tail.ensures c.ok-name.ensures.value in
    nop-named c.args.state.now c.requires.stands.firm found c.args.offset c.args.size c.nop_refusal.ensures
    c.in_default-nop_refusal.is c.in_default-name.is

-- Each that make asks: no test is against the nop, so what is below can carry it, its size fits, its name is free
pub make-requires-clause-can_stand : goal.make-requires-clause-can_stand
make-requires-clause-can_stand c =
    let found = nop-found c.args.state.now.topo.topology c.args.prov.now (sym c.in-Some.is ∙ c.below_named.ensures)
    c.with_tail.result c.with_tail.ensures c.ok-name.ensures.value in
    nop-stands c.args.state.now c.requires.stands.firm found c.args.offset c.args.size c.nop_refusal.ensures
    c.in_default-nop_refusal.is

pub make-requires-clause-size : goal.make-requires-clause-size
make-requires-clause-size c =
    let found = nop-found c.args.state.now.topo.topology c.args.prov.now (sym c.in-Some.is ∙ c.below_named.ensures)
    c.with_tail.result c.with_tail.ensures c.ok-name.ensures.value in
    nop-sized c.args.state.now c.requires.stands.firm found c.args.offset c.args.size c.nop_refusal.ensures
    c.in_default-nop_refusal.is

pub make-requires-clause-free : goal.make-requires-clause-free
make-requires-clause-free c =
    let found = nop-found c.args.state.now.topo.topology c.args.prov.now (sym c.in-Some.is ∙ c.below_named.ensures)
    c.with_tail.result c.with_tail.ensures c.ok-name.ensures.value in
    nop-free c.args.state.now c.requires.stands.firm found c.args.offset c.args.size c.nop_refusal.ensures
    c.in_default-nop_refusal.is c.in-Some-name.is

-- the nop has the next consumer, and name, size and sectors of its provider are the model's
pub returns-clause-does : goal.returns-clause-does
returns-clause-does c = λ log actors.
    let found = nop-found c.args.state.now.topo.topology c.args.prov.now (sym c.in-Some.is ∙ c.below_named.ensures)
    c.with_tail.result c.with_tail.ensures c.ok-name.ensures.value in
    nop-made c.args.state.now c.requires.stands.firm found c.args.offset c.args.size c.nop_refusal.ensures
    c.in_default-nop_refusal.is c.in-Some-name.is c.make.new.state c.args.fail
    (c.nop-config.ensures
    ∙ ap (λ k. Nop (Some k) c.args.offset c.args.fail) c.coming_consumer-consumer.ensures.number)
    c.in_ok-make.ensures.made c.args.line c.done.result actors log c.done.ensures
