use Rattle.std.proofs.Common.{◌≡◌, sym, ◌∙◌, subst}
use Rattle.std.specs.Prelude.{IfSome}
use Rattle.geo_model.specs.Freeing.{wash_work_of}
use Rattle.geo_life.specs.Life.{is_out}
use Rattle.geo_life.proofs.FirstWash.{IsFirstGoing, first_going, wash_none, wash_first}
use Rattle.geo_life.proofs.washes.wash_where.Goals as goal

-- the mesh marks only withering geoms as ones that can go
pub wash_work_of-requires : goal.wash_work_of-requires
wash_work_of-requires g c = record {
  withering =
      (first_going c.args.topo.now c.next_going.ensures.sound.orderly.order c.in_ok-geom.geom
      c.in_ok-geom.ensures.first).withers;
}

-- no geom is marked as one that can go, and of an unmarked one nothing can be washed
pub returns-in_err-geom-clause-found : goal.returns-in_err-geom-clause-found
returns-in_err-geom-clause-found g c =
    λ granted stored.
    c.from_residual.ensures
    ∙ wash_none granted c.args.topo.now stored c.next_going.ensures.sound.orderly.order c.in_err-geom.ensures.first

-- of the geoms before this one, which aren't marked, nothing can be washed
pub returns-clause-found : goal.returns-clause-found
returns-clause-found g c =
    λ granted stored.
    let going : IsFirstGoing c.args.topo.now c.in_ok-geom.geom =
    first_going c.args.topo.now c.next_going.ensures.sound.orderly.order c.in_ok-geom.geom c.in_ok-geom.ensures.first in
    subst (λ o. IfSome o (λ x. c.wash_work_of.result
    ≡ wash_work_of granted (is_out c.args.topo.now) c.args.topo.now.topology x)) going.at
    (c.wash_work_of.ensures.found granted stored)
    ∙ sym (wash_first granted c.args.topo.now stored c.next_going.ensures.sound.orderly.order going.geom going.found)
