use Rattle.std.proofs.Common.{◌≡◌, ◌∙◌, List, [], length, ap, arith, subst, sym}
use Rattle.std.proofs.lemmas.List.FromFn.{length-map-range_with_len}
use Rattle.geo_elev.specs.declared.disks.DiskHead.{DiskHead}
use Rattle.geo_drain.specs.Meshes.{opened}
use Rattle.geo_elev.specs.Heads.{AreHeads, no_head}
use Rattle.geo_elev.proofs.Histories.{new_heads}
use Rattle.geo_elev.proofs.elevator.Heads.new.Goals as goal

pub invariant_of-result : goal.invariant_of-result
invariant_of-result c =
    let count : length c.in_ok-none.field-0.items ≡ c.args.disks =
    ap (λ (ds : List DiskHead). length ds) c.in_ok-none.ensures ∙ length-map-range_with_len no_head 0 c.args.disks in
    let fits = c.ranges.disks.fits in
    omega (arith, count, fits)

-- before the first entry no head has moved and nothing waits
pub returns-clause-begin : goal.returns-clause-begin
returns-clause-begin c = λ m history is.
    subst (λ (ds : List DiskHead). AreHeads (opened m) [] (record { disks = ds; noted = 0 }))
    (sym c.in_ok-none.ensures) (new_heads m history c.args.disks is)
