use Rattle.std.proofs.Common.{◌≡◌, ◌∙◌, ◌≤◌, length, List, slice_set, ap, arith}
use Rattle.geo_elev.specs.declared.disks.DiskHead.{DiskHead}
use Rattle.geo_elev.specs.Heads.{no_head}
use Rattle.geo_elev.proofs.Gathered.{gone_next, gone_length, gone_all}
use Rattle.geo_elev.proofs.gathering.forget_all.Goals as goal

pub loop-at-preserved : goal.loop-at-preserved
loop-at-preserved c =
    ap (λ (d : DiskHead). slice_set c.loop-at.disks c.loop-at.at d) c.forget.ensures
    ∙ ap (λ (ds : List DiskHead). slice_set ds c.loop-at.at (no_head 0)) c.loop-at.invariant
    ∙ gone_next c.loop-at.at c.args.disks.now

pub returns-clause-forgot : goal.returns-clause-forgot
returns-clause-forgot c =
    let most : length c.loop-at.disks ≤ c.loop-at.at = c.loop-at-test.false in
    let same : length c.loop-at.disks ≡ length c.args.disks.now =
    ap (λ (ds : List DiskHead). length ds) c.loop-at.invariant ∙ gone_length c.loop-at.at c.args.disks.now in
    c.loop-at.invariant ∙ gone_all c.loop-at.at 0 c.args.disks.now (omega (arith, most, same))
