use Rattle.std.proofs.Common.{◌≡◌, ℕ, List, ◌*◌, length, take, ◌∙◌, ap}
use Rattle.std.proofs.Math.Nat.{mul-div_left, mul-mod_left}
use Rattle.geo_base.specs.Sectors.{cut_into, sectors_of, with_sectors}
use Rattle.geo_base.specs.Written.{written_over}
use Rattle.geo_disk.proofs.SectorLemmas.{cut_into-take, length-cut_into, sectors_length, some_sectors, with_sectors_length, written_sectors}
use Rattle.geo_disk.proofs.mem_disk.MemDisk.write_sectors.Goals as goal

-- the sectors of the bytes that are kept afterwards
sectors_are : (c : goal.After-self-1)
    → sectors_of c.self.inside.sector (written_over c.self.inside.bytes c.write_over.new.bytes)
    ≡ with_sectors (sectors_of c.self.inside.sector c.self.inside.bytes) c.args.first
    (cut_into c.args.count c.self.inside.sector c.args.bytes.now)
sectors_are c =
    let size : ℕ = c.self.inside.sector in
    let part : List ℕ = take (c.args.count * size) c.args.bytes.now in
    let many : length part ≡ c.args.count * size =
    some_sectors size c.args.count c.args.bytes.now (rw (← c.self.view_is) at c.requires.some) in
    written_sectors size c.args.first c.args.count c.self.inside.bytes part c.write_over.new.bytes
    c.self.invariant.some_size c.self.invariant.whole many
    (rw (← sectors_length c.self.inside.sector c.self.inside.bytes) (rw (← c.self.view_is) at c.requires.inside))
    (rw (many, c.byte_place-from.ensures.place, c.bytes_mut.ensures.value) at c.write_over.ensures)
    ∙ ap (with_sectors (sectors_of size c.self.inside.bytes) c.args.first)
    (cut_into-take c.args.count size c.args.bytes.now)

-- the part that is written is whole sectors, and these lie on the disk
pub byte_place-from-requires-clause-sectors : goal.byte_place-from-requires-clause-sectors
byte_place-from-requires-clause-sectors c =
    let size : ℕ = c.self.inside.sector in
    rw (some_sectors size c.args.count c.args.bytes.now (rw (← c.self.view_is) at c.requires.some))
    (record {
      some_size = c.self.invariant.some_size;
      whole = mul-mod_left c.args.count size;
      inside = rw (
        mul-div_left c.args.count c.self.invariant.some_size,
        c.len-all.ensures,
        ← sectors_length size c.self.inside.bytes,
      ) (rw (← c.self.view_is) at c.requires.inside);
    })

-- whole sectors are written over whole sectors, so the disk's sectors are the old with these among them
pub returns-clause-written : goal.returns-clause-written
returns-clause-written c =
    rw (← c.self.view_is)
    (ap (λ sectors. record {
      sector = c.self.inside.sector;
      sectors = sectors;
      fails = c.self.inside.fails;
      calls =
          c.self.inside.calls;
      faults = c.self.inside.faults;
      part = c.self.inside.part;
      asked = c.self.inside.asked.items;
    })
    (sectors_are c))

-- as many sectors come as were written over
pub returns-clause-length : goal.returns-clause-length
returns-clause-length c =
    let size : ℕ = c.self.inside.sector in
    rw (← c.self.view_is)
    (ap length (sectors_are c)
    ∙ with_sectors_length (sectors_of size c.self.inside.bytes) c.args.first
    (cut_into c.args.count size c.args.bytes.now)
    (rw (length-cut_into c.args.count size c.args.bytes.now) (rw (← c.self.view_is) at c.requires.inside)))
