use Rattle.geo_base.proofs.Options.{if_ok_weaker, at-found}
use Rattle.geo_model.specs.Topology.{geom_at}
use Rattle.geo_laws_life.proofs.Found.{found-with, some-with}
use Rattle.geo_mesh.specs.Cells.{provider_seen}
use Rattle.geo_taste.specs.Members.{member_of}
use Rattle.geo_taste.proofs.JoinLemmas.{member_new, member_standing, standing_place, standing_stays}
use Rattle.geo_taste.proofs.join.accept_member.Goals as goal

-- the standing geom of an assembly isn't withering, and no other geom has its number
pub join_standing-requires-clause-stays : goal.join_standing-requires-clause-stays
join_standing-requires-clause-stays c =
    let x = found-with (geom_at c.args.topo.now.topology c.in-Some.geom) _ c.in-Some.ensures.found in
    standing_stays c.args.topo.now.topology c.in-Some.ensures.sound c.args.member.geom_name c.args.member.empty
    c.in-Some.geom
    x.item x.is x.fact

-- it is of the member's assembly, so it has as many places as the member's empty one
pub join_standing-requires-clause-place : goal.join_standing-requires-clause-place
join_standing-requires-clause-place c =
    let x = found-with (geom_at c.args.topo.now.topology c.in-Some.geom) _ c.in-Some.ensures.found in
    some-with (geom_at c.args.topo.now.topology c.in-Some.geom) _ x.item x.is
    (standing_place c.args.topo.now.topology c.in-Some.ensures.sound c.args.member.geom_name c.args.member.empty
    c.in-Some.geom
    x.item x.is x.fact c.args.member.place c.requires.place)

-- with a standing geom or none: where each geom is of its class, the walk finds what the model finds
pub returns-in-Some-clause-made : goal.returns-in-Some-clause-made
returns-in-Some-clause-made c =
    let x = found-with (geom_at c.args.topo.now.topology c.in-Some.geom) _ c.in-Some.ensures.found in
    if_ok_weaker _ _ c.join_standing.result (λ a is.
    member_standing c.args.topo.now c.args.queue.now (provider_seen c.args.prov c.args.below.now) (member_of
    c.args.member) c.in-Some.ensures.sound c.requires.place
    a c.join_standing.new.topo c.join_standing.new.queue c.in-Some.geom x.item x.is
    (λ may. c.in-Some.ensures.first may.classes)
    (at-found (geom_at c.args.topo.now.topology c.in-Some.geom) _ x.item x.is is)) c.join_standing.ensures.made

pub returns-in-None-clause-made : goal.returns-in-None-clause-made
returns-in-None-clause-made c =
    if_ok_weaker _ _ c.join_new.result (λ a is.
    member_new c.args.topo.now c.args.queue.now (provider_seen c.args.prov c.args.below.now) (member_of
    c.args.member) c.in-None.ensures.sound c.requires.place
    a c.join_new.new.topo c.join_new.new.queue
    (λ may. c.in-None.ensures.first may.classes) is) c.join_new.ensures.made
