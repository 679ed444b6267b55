use Rattle.std.proofs.Common.{sym, subst}
use Rattle.geo_model.specs.Topology.{Topology}
use Rattle.geo_model.specs.World.{Config}
use Rattle.geo_moves.specs.Ways.{CanCount}
use Rattle.geo_moves.proofs.Started.{passed_there}
use Rattle.geo_moves.proofs.starts.pass_by.Goals as goal

-- a split leaves the graph, so one more request can be counted still
pub note_started-requires : goal.note_started-requires
note_started-requires c = record {
  kept = c.split_by.ensures.kept;
  count = subst (λ (t : Topology Config). CanCount t c.args.geom) (sym c.split_by.ensures.graph) c.requires.count;
}

-- splitting and counting touch different parts, so together they are what the model does
pub returns-clause-started : goal.returns-clause-started
returns-clause-started c zs is =
    passed_there c.args.state.now c.split_by.new.state c.note_started.new.state c.args.bio c.args.geom zs
    c.in_ok-outcome.outcome (c.in_ok-outcome.ensures.started zs is) c.split_by.ensures.graph
    c.note_started.ensures.noted
