use Rattle.geo_bio.proofs.FamilyLemmas.{bytes_from-more, join_step}
use Rattle.geo_bio.proofs.gather.joined.Goals as goal

-- the bytes of this child are added, and those of the children behind it are left
pub loop-place-preserved : goal.loop-place-preserved
loop-place-preserved g c =
    let more = bytes_from-more (g.B.LogBytes.place_bytes c.args.log.now) c.args.bios.now.rows c.args.first
    c.loop-place.place c.args.count c.loop-place-test.true in
    join_step _ _ _ _ _ _ c.in_ok-push_bytes_at.ensures more c.loop-place.invariant
