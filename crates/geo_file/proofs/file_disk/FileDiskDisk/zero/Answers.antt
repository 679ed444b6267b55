use Rattle.std.proofs.Common.{rules}
use Rattle.geo_file.proofs.Places.{fewer_told}
use Rattle.geo_file.proofs.file_disk.FileDiskDisk.zero.Goals as goal

-- fewer zeros were written than were asked for, and what was done of their sectors is told
pub returns-then-written-size-clause-wrote : goal.returns-then-written-size-clause-wrote
returns-then-written-size-clause-wrote c =
    search (rules, fewer_told c.args.first c.args.count c.write_zeros-written.result)
