use Rattle.geo_laws_counts.proofs.Stays.{opener_came}
use Rattle.geo_laws_counts.proofs.Openers.{came_more, came_stays, below_came, came_gains, came_wants, errors_came}
use Rattle.std.specs.Prelude.{Some}
use Rattle.geo_laws_counts.proofs.demands.demand_comes.Goals as goal

pub returns-clause-quietly : goal.returns-clause-quietly
returns-clause-quietly g c granted t after geom p comes none =
    opener_came granted after t geom p comes.free comes.kind comes.agree none

pub returns-clause-raises : goal.returns-clause-raises
returns-clause-raises g c granted t after geom p comes q =
    came_more granted after t geom p comes.free comes.kind comes.agree q

pub returns-clause-changes_below : goal.returns-clause-changes_below
returns-clause-changes_below g c granted t after geom p comes ranked known bare =
    came_stays granted after t geom p comes.free comes.kind comes.agree ranked known bare

pub returns-clause-keeps_below : goal.returns-clause-keeps_below
returns-clause-keeps_below g c t geom p bare q = below_came t geom (Some p) bare q

pub returns-clause-keeps_errors : goal.returns-clause-keeps_errors
returns-clause-keeps_errors g c t geom p bare q = errors_came t geom p bare q

pub returns-clause-providers : goal.returns-clause-providers
returns-clause-providers g c granted t after geom p comes ranked known q =
    came_gains granted after t geom p comes.free comes.kind comes.agree ranked known q

pub returns-clause-consumers : goal.returns-clause-consumers
returns-clause-consumers g c granted t after geom p comes d x there found =
    came_wants granted after t geom p comes.free comes.kind comes.agree d x there found
