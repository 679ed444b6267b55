use Rattle.std.proofs.Common.{rules, arith, None}
use Rattle.std.proofs.lemmas.Grind.{common_steps}
use Rattle.geo_jobs.proofs.publisher.lay.Goals as goal

pub returns : goal.returns
returns c = record {
  list = c.shown_at.result;
  second = None;
  third = None;
  are = (first_of (search rules, grind (arith, common_steps)));
  at = search rules;
}
