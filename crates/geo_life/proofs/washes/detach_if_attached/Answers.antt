use Rattle.geo_laws_graph.specs.LookupLaws.{TwoChangesAreOne}
use Rattle.geo_laws_graph.proofs.TwoChanges.{two-changes}
use Rattle.geo_life.proofs.Loose.{detached_loose}
use Rattle.geo_life.proofs.washes.detach_if_attached.Goals as goal

pub returns-then-is_attached-clause-loose : goal.returns-then-is_attached-clause-loose
returns-then-is_attached-clause-loose g c =
    rw c.detach.ensures (detached_loose c.args.topo.now.topology c.args.cons c.requires.lives)

pub returns-then-is_attached-clause-same : goal.returns-then-is_attached-clause-same
returns-then-is_attached-clause-same g c =
    rw c.detach.ensures (TwoChangesAreOne.removed two-changes c.args.topo.now.topology c.args.cons)
