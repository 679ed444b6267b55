use Rattle.std.proofs.Common.{sym, ◌∙◌}
use Rattle.std.specs.Prelude.{◌==◌, length, find, option_map}
use Rattle.geo_model.specs.Topology.{Provider, attached_to, providers_of}
use Rattle.geo_access.proofs.Folding.{found_begin, found_more}
use Rattle.geo_life.proofs.washes.free_provider.Goals as goal

pub loop-id-init : goal.loop-id-init
loop-id-init g c =
    found_begin (λ (p : Provider). p.number)
    (λ (p : Provider). length (attached_to c.args.topo.now.topology p.number) == 0)
    (providers_of c.args.topo.now.topology c.args.geom)

-- something is attached to this one, so the first that is unused is among the others
pub loop-id-preserved : goal.loop-id-preserved
loop-id-preserved g c =
    rw c.number-from.ensures
    (found_more (λ (p : Provider). p.number)
    (λ (p : Provider). length (attached_to c.args.topo.now.topology p.number) == 0)
    (providers_of c.args.topo.now.topology c.args.geom) _ _ _
    (option_map (λ (p : Provider). p.number)
    (find (λ (p : Provider). length (attached_to c.args.topo.now.topology p.number) == 0)
    (providers_of c.args.topo.now.topology c.args.geom)))
    c.in-Some.ensures.next.left (sym c.is_unused.ensures.unused ∙ c.if-is_unused.false) c.loop-id.invariant)
