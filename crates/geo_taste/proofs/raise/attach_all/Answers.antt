use Rattle.std.proofs.Common.{arith, refl}
use Rattle.geo_taste.proofs.Raising.{attach_step, attach_end}
use Rattle.geo_taste.proofs.raise.attach_all.Goals as goal

pub loop-prov-init : goal.loop-prov-init
loop-prov-init c = record {
  same = refl;
  stand = c.requires.stand;
  lives = c.requires.lives;
  bare = c.requires.bare;
  room = c.requires.room;
  other_room = refl;
}

-- one consumer more: the geom has no provider still, and the other providers can be stood on still
pub loop-prov-preserved : goal.loop-prov-preserved
loop-prov-preserved c =
    attach_step c.loop-prov.prov-index c.loop-prov.invariant c.attach_one.new.topo (omega arith) c.prov-item.is
    (record {
      attached = c.attach_one.ensures.attached;
      sound = c.attach_one.ensures.sound;
      room = c.attach_one.ensures.room;
      other_room = c.attach_one.ensures.other_room;
    })

pub returns-clause-attached : goal.returns-clause-attached
returns-clause-attached c =
    attach_end c.loop-prov.prov-index c.loop-prov.invariant c.loop-prov-test.false
