use Rattle.std.specs.Prelude.{length}
use Rattle.geo_laws_counts.proofs.Reach.{below_self, below_closed}
use Rattle.geo_laws_counts.proofs.demands.below_is_closed.Goals as goal

pub returns-clause-begins : goal.returns-clause-begins
returns-clause-begins g c t p = below_self (length t.geoms) t p

pub returns-clause-closed : goal.returns-clause-closed
returns-clause-closed g c t ranked p y q d there attached above reached =
    below_closed t ranked p y q d there attached above reached
