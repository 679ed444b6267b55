-- Records with short names fill a sector.
use Rattle.geo_model.proofs.SectorLemmas.{label_fills, concat_fills, stripe_fills}
use Rattle.geo_laws_handles.specs.RequestLaws.{RecordsFillSectors}

-- records fill sectors
pub records_fill_sectors : RecordsFillSectors
records_fill_sectors = record { label = label_fills; concat = concat_fills; stripe = stripe_fills }
