-- So many sectors as bytes.
use Rattle.std.proofs.Common.{◌≡◌, ℕ, ◌+◌, ◌*◌, ◌/◌, ◌%◌, ◌<◌, ◌≤◌, List, length, take, sym, ◌∙◌, ap, subst}
use Rattle.std.proofs.Math.Nat.{mul-div_cancel, mul-mod_left}
use Rattle.std.proofs.lemmas.List.{length-take-le}
use Rattle.geo_disk.specs.Disk.{AreSectors}

-- the bytes of n sectors are n sectors
pub sectors_in : (sector n bytes : ℕ) → 0 < sector → bytes ≡ n * sector → bytes / sector ≡ n
sectors_in sector n bytes some is = ap (λ b. b / sector) is ∙ mul-div_cancel n some

-- they are whole, and inside where the sectors are
pub are_sectors : (sector count first n bytes : ℕ) → 0 < sector → first + n ≤ count → bytes ≡ n * sector
    → AreSectors sector count first bytes
are_sectors sector count first n bytes some inside is = record {
  some_size = some;
  whole = ap (λ b. b % sector) is ∙ mul-mod_left n sector;
  inside = subst (λ k. first + k ≤ count) (sym (sectors_in sector n bytes some is)) inside;
}

-- a room that was cut to some sectors has their bytes
pub cut_length : (count : ℕ) (room : List ℕ) {sector size : ℕ} {cut lent : List ℕ} → lent ≡ cut
    → cut ≡ take (count * size) room → size ≡ sector → count * sector ≤ length room → length lent ≡ count * sector
cut_length count room {sector = sector} is cuts same short =
    ap length (is ∙ cuts ∙ ap (λ s. take (count * s) room) same) ∙ length-take-le (count * sector) room short
