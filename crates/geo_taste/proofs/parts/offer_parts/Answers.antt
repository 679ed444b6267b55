use Rattle.std.proofs.Common.{arith, refl, subst}
use Rattle.geo_taste.specs.declared.offer.Offer.{Offer}
use Rattle.geo_taste.specs.Making.{AreBoth, both, with_offer}
use Rattle.geo_taste.proofs.TableLemmas.{offer_step, offer_end, offer_spare}
use Rattle.geo_taste.proofs.parts.offer_parts.Goals as goal

pub loop-part-init : goal.loop-part-init
loop-part-init c = record {
  same = refl;
  may = c.requires.may;
  can = c.requires.parts;
  apart = c.requires.apart;
  room = c.requires.room;
  spare = c.requires.spare;
  left = omega arith;
}

-- the other parts have other names, so they can be made still, and one place of room less is wanted
pub loop-part-preserved : goal.loop-part-preserved
loop-part-preserved c =
    offer_step c.loop-part.part-index c.loop-part.invariant c.make_offer.new.topo c.make_offer.new.queue (omega arith)
    c.part-item.is (record {
      made = subst (λ (o : Offer). AreBoth c.make_offer.new.topo c.make_offer.new.queue
          (with_offer (both c.loop-part.topo c.loop-part.queue) c.args.geom o.name o.size o.sector)) c.offer.ensures
          c.make_offer.ensures.made;
      room = c.make_offer.ensures.room;
      spare = c.make_offer.ensures.spare;
    })

pub returns-clause-made : goal.returns-clause-made
returns-clause-made c =
    offer_end c.loop-part.part-index c.loop-part.invariant c.loop-part-test.false

pub returns-clause-spare : goal.returns-clause-spare
returns-clause-spare c =
    offer_spare c.loop-part.part-index c.loop-part.invariant c.loop-part-test.false
