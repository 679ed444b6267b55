-- Zeros in sectors are sectors of zeros.
use Rattle.geo_run.proofs.Sizes.{made_zero}
use Rattle.geo_run.proofs.lent.memory_disk.Goals as goal

pub returns : goal.returns
returns c =
    made_zero c.args.decl.now c.new.result c.in_ok-bytes.bytes c.none.result c.requires.decl c.in_ok-bytes.ensures
    c.none.ensures c.new.ensures
