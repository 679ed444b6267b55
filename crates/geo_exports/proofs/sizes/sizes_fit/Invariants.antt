use Rattle.std.proofs.Common.{◌≡◌, drop}
use Rattle.geo_exports.specs.Opening.{sizes_fit}
use Rattle.geo_exports.proofs.sizes.sizes_fit.Given as goal

-- what the rest decides
abbrev pub invariant-loop-disk : goal.invariant-loop-disk
invariant-loop-disk l = sizes_fit (drop l.disk-index l.disks) l.rest ≡ sizes_fit l.disks l.sizes
