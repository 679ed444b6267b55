use Rattle.std.proofs.Common.{◌≡◌, ℕ, ◌+◌, ◌-◌, ◌*◌, ◌/◌, length, refl, arith, sym, ◌∙◌, ap}
use Rattle.std.proofs.Math.Nat.{mul_comm}
use Rattle.geo_disk.specs.Disk.{AreSectors}
use Rattle.geo_disk.specs.Memory.{Memory}
use Rattle.geo_disk.proofs.SectorLemmas.{bytes_between-sectors_of, sectors_length}
use Rattle.geo_disk.proofs.mem_disk.MemDiskDisk.read.Goals as goal

-- what is asked, said of the bytes that are kept
asked : (c : goal.After-len)
    → AreSectors c.self.inside.sector (length c.self.inside.bytes / c.self.inside.sector) c.args.first
    (length c.args.out.now)
asked c =
    let size = ap (λ (m : Memory). m.sector) c.self.view_is in
    let held = ap (λ (m : Memory). m.sectors) c.self.view_is in
    rw (← sectors_length c.self.inside.sector c.self.inside.bytes, held, size) c.requires

pub byte_place-from-requires-clause-sectors : goal.byte_place-from-requires-clause-sectors
byte_place-from-requires-clause-sectors c = rw c.len.ensures (asked c)

-- whole sectors are asked for, and their bytes are those between the places of the first and of the end
pub returns-clause-read : goal.returns-clause-read
returns-clause-read c =
    let size = ap (λ (m : Memory). m.sector) c.self.view_is in
    let held = ap (λ (m : Memory). m.sectors) c.self.view_is in
    let count : ℕ = length c.args.out.now / c.self.inside.sector in
    let asked_now : AreSectors c.self.inside.sector (length c.self.inside.bytes / c.self.inside.sector)
    c.args.first (length c.args.out.now) =
    rw (← sectors_length c.self.inside.sector c.self.inside.bytes, held, size) c.requires in
    let many : c.byte_place-from.result + length c.args.out.now - c.byte_place-from.result
    ≡ count * c.self.inside.sector =
    omega (arith, asked_now.whole, asked_now.some_size, mul_comm c.self.inside.sector count) in
    rw (c.answered-2.ensures.same, ← size, ← held, c.copy_from_slice.ensures.len)
    (c.copy_from_slice.ensures.after ∙ rw (many, c.byte_place-from.ensures.place, c.bytes.ensures) refl
    ∙ sym (bytes_between-sectors_of c.self.inside.sector c.args.first count c.self.inside.bytes asked_now.inside))
