use Rattle.std.proofs.Common.{◌≡◌, ℕ, ◌*◌, ◌/◌, length, arith, rules, ◌∙◌, ap}
use Rattle.geo_disk.proofs.SectorLemmas.{written_over-all}
use Rattle.geo_disk.specs.Drive.{view_by}
use Rattle.geo_base.specs.Written.{written_over}
use Rattle.geo_model.specs.Words.{is_read}
use Rattle.geo_serve.proofs.Whole.{are_sectors, cut_length, sectors_in}
use Rattle.geo_serve.proofs.serving.read.Goals as goal

-- the room is cut to the bytes of the request, which are whole sectors of the disk
pub read-requires : goal.read-requires
read-requires g c =
    let lent = cut_length c.args.request.now.count c.args.room c.bytes_mut.ensures.value c.cut.ensures
    c.sector_size.ensures (c.requires.room (ap is_read c.requires.cmd)) in
    are_sectors (view_by g.D.Disk.view c.args.disk.now).sector (view_by g.D.Disk.view c.args.disk.now).count _
    c.args.request.now.count (length c.bytes_mut.result.now) c.requires.can.some_size
    (omega (arith, c.requires.can.inside)) lent

-- the read went over the whole room, so the answer has as many sectors as the request asked for
pub returns-in-Ok : goal.returns-in-Ok
returns-in-Ok g c =
    let lent = cut_length c.args.request.now.count c.args.room c.bytes_mut.ensures.value c.cut.ensures
    c.sector_size.ensures (c.requires.room (ap is_read c.requires.cmd)) in
    let long : length c.read.new.out ≡ length c.cut.new.self =
    c.read.auto.out ∙ ap length c.bytes_mut.ensures.value in
    let all : written_over c.cut.new.self c.read.new.out ≡ c.read.new.out =
    written_over-all c.cut.new.self c.read.new.out long in
    let sector : ℕ = (view_by g.D.Disk.view c.args.disk.now).sector in
    let bytes : length c.read.new.out ≡ c.args.request.now.count * sector = c.read.auto.out ∙ lent in
    let many : length c.read.new.out / sector ≡ c.args.request.now.count =
    sectors_in sector c.args.request.now.count (length c.read.new.out) c.requires.can.some_size bytes in
    rw (c.from_block.ensures ∙ all) (search rules)

-- the disk was asked for the sectors of the request, and a read that fails has done none
pub returns-in-Err : goal.returns-in-Err
returns-in-Err g c =
    let lent = cut_length c.args.request.now.count c.args.room c.bytes_mut.ensures.value c.cut.ensures
    c.sector_size.ensures (c.requires.room (ap is_read c.requires.cmd)) in
    let sector : ℕ = (view_by g.D.Disk.view c.args.disk.now).sector in
    let many : length c.bytes_mut.result.now / sector ≡ c.args.request.now.count =
    sectors_in sector c.args.request.now.count (length c.bytes_mut.result.now) c.requires.can.some_size lent in
    search rules
