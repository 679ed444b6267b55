use Rattle.std.proofs.Common.{◌≡◌, ap, ◌∙◌, arith, Some}
use Rattle.std.specs.Option.{option_map, option_copied}
use Rattle.geo_model.specs.Demand.{no_counts}
use Rattle.geo_mesh.specs.Topo.{with_want}
use Rattle.geo_slots.specs.Slots.{value_at}
use Rattle.geo_access.specs.declared.counts.Way.TheVariants.{Falls}
use Rattle.geo_access.proofs.Granting.{holder_is, holder_lives}
use Rattle.geo_access.proofs.Ready.{may_end, holder_stays}
use Rattle.geo_access.proofs.Kept.{release_stands}
use Rattle.geo_access.proofs.access.release.Goals as goal

pub try_out-order-requires : goal.try_out-order-requires
try_out-order-requires g c = record {
  lives =
      rw c.place_of-prov.ensures.place
      (holder_lives c.args.topo.now.topology c.place_of-prov.ensures.sound c.args.cons
      (holder_is c.args.topo.now.topology c.args.cons c.requires.holder));
  clear = c.requires.counted.clear;
}

-- the walk met geoms that stand, each once
pub finish-requires : goal.finish-requires
finish-requires g c =
    may_end c.try_out-order.ensures.tried c.place_of-prov.ensures.sound c.requires.counted.clear

pub set_want-requires : goal.set_want-requires
set_want-requires g c =
    holder_stays (Some Falls) c.args.cons c.try_out-order.ensures.tried c.place_of-prov.ensures.sound
    c.requires.counted.clear c.requires.holder c.finish.ensures

-- what was tried is what the consumer held, so it is gone
pub returns : goal.returns
returns g c =
    let stored : value_at c.args.topo.now.wants c.args.cons ≡ Some c.unwrap.result.now.want =
    c.consumer.ensures.want ∙ ap (λ o. option_map (λ x. x.want) (option_copied o)) c.unwrap.ensures in
    let stands =
    release_stands c.args.cons c.try_out-order.ensures.tried c.place_of-prov.ensures.place
    c.place_of-prov.ensures.sound c.requires.counted c.requires.quiet c.requires.placed c.requires.holder stored
    (c.set_want.ensures ∙ ap (λ v. with_want v c.args.cons no_counts) c.finish.ensures) in
    record {
      released = stands.is;
      counted = stands.counted;
      fallen = stands.notes;
      bound = omega (arith, c.try_out-order.ensures.steps, stands.bound);
    }
