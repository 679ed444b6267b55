use Rattle.std.proofs.Common.{◌≡◌, ℕ, List, ◌+◌, ◌*◌, ◌/◌, ◌≤◌, length, replicate, arith, ◌∙◌, ap}
use Rattle.std.proofs.Math.Nat.{add-mul, mul-le-mul_right, div-mul-le_self, mul-div_left, mul-mod_left}
use Rattle.std.proofs.lemmas.List.{length-replicate}
use Rattle.geo_base.specs.Sectors.{sectors_of, with_sectors, zero_sectors}
use Rattle.geo_base.specs.Written.{written_over}
use Rattle.geo_disk.proofs.SectorLemmas.{cut_into-zeros, sectors_length, with_sectors_length, written_sectors}
use Rattle.geo_disk.proofs.mem_disk.MemDisk.zero_sectors.Goals as goal

-- what is asked, said of the bytes that are kept
asked : (c : goal.After-row_known-1) → c.args.first + c.args.count ≤ length c.self.inside.bytes / c.self.inside.sector
asked c = rw (← sectors_length c.self.inside.sector c.self.inside.bytes) (rw (← c.self.view_is) at c.requires)

-- the sectors of the bytes that are kept afterwards
sectors_are : (c : goal.After-self-1)
    → sectors_of c.self.inside.sector (written_over c.self.inside.bytes c.zero_over.new.bytes)
    ≡ with_sectors (sectors_of c.self.inside.sector c.self.inside.bytes) c.args.first
    (zero_sectors c.args.count c.self.inside.sector)
sectors_are c =
    let size : ℕ = c.self.inside.sector in
    let zeros : List ℕ = replicate (c.args.count * size) 0 in
    written_sectors size c.args.first c.args.count c.self.inside.bytes zeros c.zero_over.new.bytes
    c.self.invariant.some_size c.self.invariant.whole (length-replicate (c.args.count * size) 0)
    (rw (← sectors_length c.self.inside.sector c.self.inside.bytes) (rw (← c.self.view_is) at c.requires))
    (rw (← c.byte_place-from.ensures.place, ← c.bytes_mut.ensures.value) c.zero_over.ensures)
    ∙ ap (with_sectors (sectors_of size c.self.inside.bytes) c.args.first) (cut_into-zeros c.args.count size)

-- the sectors that are zeroed lie on the disk, whose bytes have a length that fits
pub overflow_mul-size : goal.overflow_mul-size
overflow_mul-size c =
    let size : ℕ = c.self.inside.sector in
    let upper : (c.args.first + c.args.count) * size ≤ length c.self.inside.bytes / size * size =
    mul-le-mul_right size (asked c) in
    omega (
      arith,
      add-mul c.args.first c.args.count size,
      div-mul-le_self (length c.self.inside.bytes) size,
      c.len-all.ensures,
      c.len-all.type_inv,
    )

-- the part that is zeroed is whole sectors, and these lie on the disk
pub byte_place-from-requires-clause-sectors : goal.byte_place-from-requires-clause-sectors
byte_place-from-requires-clause-sectors c = record {
  some_size = c.self.invariant.some_size;
  whole = mul-mod_left c.args.count c.self.inside.sector;
  inside = rw (mul-div_left c.args.count c.self.invariant.some_size, c.len-all.ensures) (asked c);
}

-- whole sectors are zeroed, so the disk's sectors are the old with zero ones among them
pub returns-clause-zeroed : goal.returns-clause-zeroed
returns-clause-zeroed c =
    rw (← c.self.view_is)
    (ap (λ sectors. record {
      sector = c.self.inside.sector;
      sectors = sectors;
      fails = c.self.inside.fails;
      calls =
          c.self.inside.calls;
      faults = c.self.inside.faults;
      part = c.self.inside.part;
      asked = c.self.inside.asked.items;
    })
    (sectors_are c))

-- as many sectors come as were written over
pub returns-clause-length : goal.returns-clause-length
returns-clause-length c =
    let size : ℕ = c.self.inside.sector in
    rw (← c.self.view_is)
    (ap length (sectors_are c)
    ∙ with_sectors_length (sectors_of size c.self.inside.bytes) c.args.first (zero_sectors c.args.count size)
    (rw (length-replicate c.args.count (replicate {A = ℕ} size 0)) (rw (← c.self.view_is) at c.requires)))
