use Rattle.std.specs.Prelude.{Some}
use Rattle.geo_model.specs.Topology.{add_consumer, remove_consumer}
use Rattle.geo_model.specs.Opens.{below}
use Rattle.geo_laws_counts.proofs.Sums.{have-at_most}
use Rattle.geo_laws_counts.proofs.LimitFacts.{risen_none, fallen_none, risen_in, fallen_in}
use Rattle.geo_laws_counts.proofs.Openers.{came_more, came_stays, went_less, went_stays}
use Rattle.geo_laws_counts.proofs.Reach.{differing_stays}
use Rattle.geo_laws_counts.proofs.allowed.rises_and_falls_are_below.Goals as goal

pub returns-clause-rising_grants : goal.returns-clause-rising_grants
returns-clause-rising_grants g m small large t c p less differs ranked known = (
  risen_in small t large t (below t p) (differing_stays small large t c p differs ranked known).haves,
  fallen_none small t large t (have-at_most small large less t),
)

pub returns-clause-falling_grants : goal.returns-clause-falling_grants
returns-clause-falling_grants g m small large t c p less differs ranked known = (
  fallen_in large t small t (below t p) (differing_stays large small t c p differs ranked known).haves,
  risen_none large t small t (have-at_most small large less t),
)

pub returns-clause-coming : goal.returns-clause-coming
returns-clause-coming g m granted t after geom p comes ranked known bare = (
  risen_in granted t after (add_consumer t geom (Some p)) (below t p)
      (came_stays granted after t geom p comes.free comes.kind comes.agree ranked known bare).haves,
  fallen_none granted t after (add_consumer t geom (Some p))
      (came_more granted after t geom p comes.free comes.kind comes.agree),
)

pub returns-clause-going : goal.returns-clause-going
returns-clause-going g m granted t after d p goes place ranked known = (
  fallen_in granted t after (remove_consumer t d.number) (below t p)
      (went_stays granted after t d goes.only goes.kind goes.agree p ranked known place).haves,
  risen_none granted t after (remove_consumer t d.number)
      (went_less granted after t d goes.only goes.kind goes.agree),
)
