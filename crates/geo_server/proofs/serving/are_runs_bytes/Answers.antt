use Rattle.std.proofs.Common.{arith}
use Rattle.std.proofs.lemmas.List.{get_or_default}
use Rattle.geo_server.proofs.serving.are_runs_bytes.Goals as goal

-- each of them is a byte
pub returns : goal.returns
returns c =
    let xs = c.args.bytes.now in
    record {
      some = c.requires.some;
      not_long = c.requires.not_long;
      each = λ k d inside. omega (arith, c.type_inv.bytes k, get_or_default xs k d 0 inside);
    }
