use Rattle.std.proofs.Common.{◌∙◌, ap, sym}
use Rattle.geo_base.specs.Sectors.{joined_sectors}
use Rattle.geo_disk.specs.Memory.{Memory}
use Rattle.geo_disk.proofs.SectorLemmas.{joined-sectors_of}
use Rattle.geo_disk.proofs.mem_disk.MemDisk.into_parts.Goals as goal

-- the bytes are whole sectors, so joining the sectors gives them again
pub returns-clause-bytes : goal.returns-clause-bytes
returns-clause-bytes c =
    sym (joined-sectors_of c.self.inside.sector c.self.inside.bytes c.self.invariant.some_size c.self.invariant.whole)
    ∙ ap (λ (m : Memory). joined_sectors m.sectors) c.self.view_is
