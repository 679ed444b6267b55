use Rattle.std.proofs.Common.{◌+◌, ◌-◌, ap, sym, ◌∙◌}
use Rattle.geo_bio.specs.Gather.{without_all}
use Rattle.geo_bio.proofs.FamilyLemmas.{without_all-more}
use Rattle.geo_bio.proofs.gather.remove_all.Goals as goal

-- one child more is gone, and the children behind it are left to go
pub loop-place-preserved : goal.loop-place-preserved
loop-place-preserved c =
    let i = c.loop-place.invariant in
    let e = c.remove.ensures.removed in
    let step = without_all-more c.loop-place.bios.rows c.args.first c.loop-place.place c.args.count
    c.loop-place-test.true in
    record {
      rest = ap (λ s. without_all s.rows (c.args.first + (c.loop-place.place + 1))
          (c.args.count - (c.loop-place.place + 1))) e ∙ sym step ∙ i.rest;
      next = ap (λ s. s.next) e ∙ i.next;
      spare = ap (λ s. s.spare) e ∙ i.spare;
    }
