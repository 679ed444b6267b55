use Rattle.std.proofs.Common.{◌∙◌}
use Rattle.geo_moves.proofs.joins.concat.Goals as goal

-- the providers were looked up by these names, of which there are at most 16
pub join_over-requires-clause-found : goal.join_over-requires-clause-found
join_over-requires-clause-found c = record {
  few = c.requires.few;
  is = c.deref.ensures.value ∙ c.in_ok-below.ensures;
}
