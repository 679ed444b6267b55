use Rattle.geo_disk.specs.MemShelf.{kept_slot}
use Rattle.geo_disk.proofs.ImageLemmas.{after_give, slots_after_give}
use Rattle.geo_disk.proofs.NameLemmas.{among-from_Contains}
use Rattle.geo_disk.proofs.mem_shelf.MemShelf.give_now.Goals as goal

-- the name is lent, and each name that is lent has its place, without a disk
pub keep-requires : goal.keep-requires
keep-requires c =
    c.self.invariant c.args.name.now
    (among-from_Contains c.args.name.now c.self.inside.lending.lent (rw (← c.self.view_is) at c.requires))

-- what is lent afterwards was lent before, and no place changed its name
pub invariant_of-self : goal.invariant_of-self
invariant_of-self c =
    rw c.give_back.ensures.lent
    (slots_after_give c.self.inside.slots.items c.keep.new.slots.items c.self.inside.lending.lent c.args.name.now
    (kept_slot c.args.name.now c.args.disk)
    c.keep.ensures.here c.keep.ensures.others c.self.invariant)

-- the name is lent no more and its place has the disk's bytes; the other names have what they had
pub returns-clause-given : goal.returns-clause-given
returns-clause-given c =
    rw (c.give_back.ensures.lent, ← c.self.view_is)
    (after_give c.self.inside.slots.items c.keep.new.slots.items c.self.inside.lending.lent c.args.name.now
    c.args.disk c.keep.ensures.here c.keep.ensures.others)
