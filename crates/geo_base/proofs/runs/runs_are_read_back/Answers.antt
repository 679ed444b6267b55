use Rattle.std.proofs.Common.{arith}
use Rattle.geo_base.specs.Runs.{runs_text}
use Rattle.geo_base.proofs.RunsFault.{runs-one, runs-of-text}
use Rattle.geo_base.proofs.runs.runs_are_read_back.Goals as goal

-- the text of bytes reads as these, and no text of runs has two readings
pub returns : goal.returns
returns c =
    let read = runs-of-text c.args.bytes.now c.requires.some_byte c.requires.not_long
    (λ k. omega (arith, c.type_inv.bytes k)) in
    record { read = read; alone = λ others r. runs-one (runs_text c.args.bytes.now) others c.args.bytes.now r read }
