use Rattle.std.proofs.Common.{subst, sym}
use Rattle.geo_jobs.specs.Viewed.{IsLastLook, LooksAt}
use Rattle.geo_jobs.proofs.watch.look_last.Goals as goal

pub look_once-requires : goal.look_once-requires
look_once-requires g c = subst (λ w. LooksAt w c.args.publisher) c.in-Some.is c.requires

pub returns-clause-last : goal.returns-clause-last
returns-clause-last g c =
    subst (λ w. IsLastLook w c.args.publisher c.look_once.result) (sym c.in-Some.is) c.look_once.ensures
