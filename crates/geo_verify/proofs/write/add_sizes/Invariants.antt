-- With the lines of the disks that are left, those of all are added.
use Rattle.std.proofs.Common.{◌≡◌, ◌++◌, drop, zip, flat_map}
use Rattle.geo_headline.specs.Traces.{size_line}
use Rattle.geo_verify.proofs.write.add_sizes.Given as goal

abbrev pub invariant-loop-place : goal.invariant-loop-place
invariant-loop-place l =
    l.text ++ flat_map size_line (zip (drop l.place l.disks) (drop l.place l.facts))
    ≡ l.fn.text ++ flat_map size_line (zip l.disks l.facts)
