use Rattle.std.proofs.Common.{sym, ◌∙◌, arith, subst}
use Rattle.geo_life.specs.Life.{IsDevMade}
use Rattle.geo_mesh.specs.Topo.{TopoView}
use Rattle.geo_laws_graph.proofs.Members.{has}
use Rattle.geo_model.specs.Topology.{provider_at}
use Rattle.geo_moves.proofs.Holding.{comer_counted, comer_holder, comer_nothing, comer_below, comer_allowed, comer_room, comer_came}
use Rattle.geo_moves.proofs.holders.take_in.Goals as goal

-- for each condition: the new consumer is DEV's, attached, and holds nothing, so the counts are right with it
pub grant-requires-clause-counted : goal.grant-requires-clause-counted
grant-requires-clause-counted g c =
    comer_counted c.args.topo.now c.in_ok-cons.ensures.sound c.requires.counted c.args.prov c.attach_new.new.topo
    c.in_ok-cons.ensures.attached c.in_ok-cons.cons c.in_ok-cons.ensures.number

pub grant-requires-clause-holder : goal.grant-requires-clause-holder
grant-requires-clause-holder g c =
    comer_holder c.args.topo.now c.in_ok-cons.ensures.sound c.requires.counted c.args.prov c.attach_new.new.topo
    c.in_ok-cons.ensures.attached c.in_ok-cons.cons c.in_ok-cons.ensures.number

pub grant-requires-clause-nothing : goal.grant-requires-clause-nothing
grant-requires-clause-nothing g c =
    comer_nothing c.args.topo.now c.in_ok-cons.ensures.sound c.requires.counted c.args.prov c.attach_new.new.topo
    c.in_ok-cons.ensures.attached c.in_ok-cons.cons c.in_ok-cons.ensures.number

-- it was decided before there was a consumer that nothing refuses its counts, and the graph is the one meant then
pub unreachable-requires : goal.unreachable-requires
unreachable-requires g c =
    let none = comer_allowed c.args.topo.now c.in_ok-cons.ensures.sound c.requires.counted c.args.prov
    c.attach_new.new.topo
    c.in_ok-cons.ensures.attached c.in_ok-cons.cons c.in_ok-cons.ensures.number c.args.add c.requires.allowed in
    let never = sym none ∙ c.in-Err.ensures.answer in
    absurd (cc)

-- at most each provider rises, and there is a place for each
pub announce_risen-requires-clause-room : goal.announce_risen-requires-clause-room
announce_risen-requires-clause-room g c =
    comer_room c.args.topo.now c.in_ok-cons.ensures.sound c.requires.counted c.args.prov c.attach_new.new.topo
    c.in_ok-cons.ensures.attached c.in_ok-cons.cons c.in_ok-cons.ensures.number c.args.add c.requires.quiet
    c.args.queue.now c.grant.new.topo c.in-Ok.ensures.granted c.in-Ok.ensures.counted c.in-Ok.ensures.risen
    c.requires.room

-- the noted rises are the model's, and announcing them leaves all counts
pub returns-clause-came : goal.returns-clause-came
returns-clause-came g c =
    comer_came c.args.topo.now c.in_ok-cons.ensures.sound c.requires.counted c.args.prov c.attach_new.new.topo
    c.in_ok-cons.ensures.attached c.in_ok-cons.cons c.in_ok-cons.ensures.number c.args.add c.requires.quiet
    c.args.queue.now c.grant.new.topo c.in-Ok.ensures.granted c.in-Ok.ensures.counted c.in-Ok.ensures.risen
    c.announce_risen.new.topo c.announce_risen.new.queue c.announce_risen.ensures.announced
    c.announce_risen.ensures.rest c.announce_risen.ensures.room c.announce_risen.ensures.kept

-- a new consumer of DEV has nothing above it, so as many consumers lie below as below the provider before
pub returns-clause-bound : goal.returns-clause-bound
returns-clause-bound g c =
    let y = has (provider_at c.args.topo.now.topology c.args.prov) c.requires.lives in
    let same = comer_below c.args.topo.now c.in_ok-cons.ensures.sound c.requires.counted c.args.prov
    c.attach_new.new.topo
    c.in_ok-cons.ensures.attached c.in_ok-cons.cons c.in_ok-cons.ensures.number y.item y.is in
    let most = c.in-Ok.ensures.bound in
    omega (arith, same, most)

pub announce_risen-requires-clause-made : goal.announce_risen-requires-clause-made
announce_risen-requires-clause-made g c =
    subst (λ (v : TopoView g.row.C.Denot). IsDevMade v.topology) (sym c.in-Ok.ensures.granted)
    (subst (λ (v : TopoView g.row.C.Denot). IsDevMade v.topology) (sym c.in_ok-cons.ensures.attached) c.requires.made)
