use Rattle.geo_moves.proofs.Walking.{next_named}
use Rattle.geo_moves.proofs.names.named_from.Goals as goal

pub returns : goal.returns
returns c = record {
  next =
      next_named c.args.topo.now.topology c.args.kind c.args.name.now c.next_named.ensures.sound c.args.from
      c.next_named.result c.next_named.ensures.first;
}
