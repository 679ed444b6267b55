use Rattle.std.proofs.Common.{Some, None, ◌<◌, ◌^◌, ◌∙◌, refl, subst}
use Rattle.geo_model.specs.World.{World}
use Rattle.geo_bio.specs.Rows.{as_bio}
use Rattle.geo_core.specs.Running.{seen}
use Rattle.geo_core.proofs.Due.{spot_shown}
use Rattle.geo_core.proofs.Meshes.{Reads}
use Rattle.geo_core.proofs.sent.sent.Goals as goal

-- where the bio of the table goes, that of the world goes
pub returns-in-Some-clause-spot : goal.returns-in-Some-clause-spot
returns-in-Some-clause-spot c =
    let r = c.args.running.now in
    let it : Reads r (seen r) = record { is = c.requires; same = refl } in
    c.spot_in.ensures
    ∙ spot_shown it c.args.bio (Some (as_bio c.args.bio c.in-Some.found.now)) c.in-Some.ensures.found

pub returns-in-Some-clause-bound : goal.returns-in-Some-clause-bound
returns-in-Some-clause-bound c = subst (λ (w : World). w.next_bio < 2 ^ 64) c.requires.world c.get.ensures.bound

pub returns-in-None-clause-spot : goal.returns-in-None-clause-spot
returns-in-None-clause-spot c =
    let r = c.args.running.now in
    let it : Reads r (seen r) = record { is = c.requires; same = refl } in
    spot_shown it c.args.bio None c.in-None.ensures.found

pub returns-in-None-clause-bound : goal.returns-in-None-clause-bound
returns-in-None-clause-bound c = subst (λ (w : World). w.next_bio < 2 ^ 64) c.requires.world c.get.ensures.bound
