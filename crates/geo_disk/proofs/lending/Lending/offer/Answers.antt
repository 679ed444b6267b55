use Rattle.geo_disk.proofs.NameLemmas.{among-from_Contains}
use Rattle.geo_disk.proofs.lending.Lending.offer.Goals as goal

-- the name is lent, and each name that is lent has counts
pub set_count-requires : goal.set_count-requires
set_count-requires c =
    c.self.invariant c.args.name.now
    (among-from_Contains c.args.name.now c.self.inside.lent.items (rw (← c.self.view_is) at c.requires))
