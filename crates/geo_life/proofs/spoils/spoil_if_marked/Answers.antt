use Rattle.std.proofs.Common.{ap, ◌∙◌}
use Rattle.geo_model.specs.Events.{wither_unless_withering}
use Rattle.geo_mesh.specs.Topo.{TopoView}
use Rattle.geo_life.specs.Life.{queued}
use Rattle.geo_life.proofs.Spoiling.{next_is, unless_next}
use Rattle.geo_life.proofs.spoils.spoil_if_marked.Goals as goal

-- neither a mark that is lost nor a geom that withers makes a consumer
pub returns-then-cons-clause-next : goal.returns-then-cons-clause-next
returns-then-cons-clause-next g c =
    next_is
    (wither_unless_withering (queued c.set_spoiled.new.self c.args.queue.now) c.args.cons.now.geom)
    (queued c.wither_unless_withering.new.topo c.wither_unless_withering.new.queue)
    c.wither_unless_withering.ensures.withered
    ∙ unless_next (queued c.set_spoiled.new.self c.args.queue.now) c.args.cons.now.geom
    ∙ ap (λ (v : TopoView g.row.C.Denot). v.topology.next_consumer) c.set_spoiled.ensures
