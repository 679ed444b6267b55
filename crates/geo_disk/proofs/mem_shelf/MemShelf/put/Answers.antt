use Rattle.geo_disk.specs.declared.mem_shelf.Slot.{Slot}
use Rattle.geo_disk.proofs.ImageLemmas.{after_put, others_after_put}
use Rattle.geo_disk.proofs.NameLemmas.{named-push_some}
use Rattle.geo_disk.proofs.mem_shelf.MemShelf.put.Goals as goal

-- a name that is lent has its place still, in front of the new one
pub invariant_of-self-2 : goal.invariant_of-self-2
invariant_of-self-2 c name among =
    rw c.in_ok-push.ensures.items
    (named-push_some (λ (x : Slot). x.name) name c.self.inside.slots.items
    (record { name = c.args.name.now; bytes = c.args.bytes; fails = c.args.fails; calls = 0; part = 0 })
    (c.self.invariant name among))

-- the name had no place and isn't lent, so the bytes in the new place are its image
pub returns-clause-put : goal.returns-clause-put
returns-clause-put c =
    rw c.in_ok-push.ensures.items
    (after_put c.self.inside.slots.items c.self.inside.lending.lent (record {
      name = c.args.name.now;
      bytes =
          c.args.bytes;
      fails = c.args.fails;
      calls = 0;
      part = 0;
    })
    (rw (← c.self.view_is) at c.requires.not_lent) (rw (← c.self.view_is) at c.requires.new))

-- the new place isn't that of another name
pub returns-clause-others : goal.returns-clause-others
returns-clause-others c other apart =
    rw (c.in_ok-push.ensures.items, ← c.self.view_is)
    (others_after_put c.self.inside.slots.items c.self.inside.lending.lent
    (record { name = c.args.name.now; bytes = c.args.bytes; fails = c.args.fails; calls = 0; part = 0 })
    other apart)
