use Rattle.std.proofs.Common.{option_map, find, ap, arith, sym, ◌∙◌}
use Rattle.geo_model.specs.Topology.{Geom}
use Rattle.geo_taste.proofs.JoinLemmas.{has_name, named_found, named_geoms, next_geom_of, walk_end, walk_found, walk_on, walk_passes}
use Rattle.geo_taste.proofs.standing.standing_geom.Goals as goal
use Rattle.geo_laws_graph.specs.LookupLaws.{WalksMeetAll}
use Rattle.geo_laws_graph.proofs.Walks.{walks-meet}
use Rattle.geo_model.specs.World.{Config}
use Rattle.geo_taste.specs.Joining.{is_of_assembly}

pub loop-id-init : goal.loop-id-init
loop-id-init c =
    ap (find (is_of_assembly c.args.member.now.geom_name c.args.member.now.empty))
    (WalksMeetAll.begin walks-meet (λ (g : Geom Config). g.number)
    (named_geoms c.args.member.now.kind c.args.member.now.geom_name c.args.topo.now.topology.geoms))

pub returns-then-is_at-clause-found : goal.returns-then-is_at-clause-found
returns-then-is_at-clause-found c =
    walk_passes c.args.topo.now.topology (has_name c.args.member.now.kind c.args.member.now.geom_name)
    c.args.member.now.geom_name c.args.member.now.empty c.loop-id.from c.in-Some.id c.in-Some.ensures.sound
    c.in-Some.ensures.first c.loop-id.invariant (sym c.if-is_at.true ∙ c.is_at.ensures)

-- those before it aren't of the assembly, and a geom of the assembly has its class and its name
pub returns-then-is_at-clause-first : goal.returns-then-is_at-clause-first
returns-then-is_at-clause-first c = λ classes.
    walk_found c.args.topo.now.topology (has_name c.args.member.now.kind c.args.member.now.geom_name)
    c.args.member.now.geom_name c.args.member.now.empty c.loop-id.from c.in-Some.id c.in-Some.ensures.sound
    c.in-Some.ensures.first c.loop-id.invariant (sym c.if-is_at.true ∙ c.is_at.ensures)
    ∙ ap (option_map (λ (g : Geom _). g.number)) (named_found c.args.member.now.kind c.args.member.now.geom_name
    c.args.member.now.empty c.requires c.args.topo.now.topology.geoms classes)

-- the geom's number is below the next one, which is in range
pub overflow_add-from : goal.overflow_add-from
overflow_add-from c =
    let next = next_geom_of c.args.topo.now.topology (has_name c.args.member.now.kind c.args.member.now.geom_name)
    c.loop-id.from c.in-Some.id c.in-Some.ensures.sound (sym c.in-Some.ensures.first) in
    omega (arith, c.number-from.ensures, next.known, next.fits)

pub loop-id-smaller : goal.loop-id-smaller
loop-id-smaller c =
    let next = next_geom_of c.args.topo.now.topology (has_name c.args.member.now.kind c.args.member.now.geom_name)
    c.loop-id.from c.in-Some.id c.in-Some.ensures.sound (sym c.in-Some.ensures.first) in
    omega (arith, c.number-from.ensures, next.known, next.past)

-- this geom isn't of the assembly, so the first that is lies among those that are left
pub loop-id-preserved : goal.loop-id-preserved
loop-id-preserved c =
    rw c.number-from.ensures
    (walk_on c.args.topo.now.topology (has_name c.args.member.now.kind c.args.member.now.geom_name)
    c.args.member.now.geom_name c.args.member.now.empty c.loop-id.from c.in-Some.id c.in-Some.ensures.sound
    c.in-Some.ensures.first c.loop-id.invariant (sym c.if-is_at.false ∙ c.is_at.ensures))

-- none is left, and a geom of another class or name isn't of the assembly
pub returns-clause-first : goal.returns-clause-first
returns-clause-first c = λ classes.
    walk_end c.args.topo.now.topology c.args.member.now.geom_name c.args.member.now.empty
    (named_geoms c.args.member.now.kind c.args.member.now.geom_name c.args.topo.now.topology.geoms) c.loop-id.from
    c.loop-id.invariant c.in_default.ensures.first
    ∙ ap (option_map (λ (g : Geom _). g.number)) (named_found c.args.member.now.kind c.args.member.now.geom_name
    c.args.member.now.empty c.requires c.args.topo.now.topology.geoms classes)
