use Rattle.geo_verify.proofs.line.size_of_line.Goals as goal
use Rattle.geo_verify.proofs.Marks.{read_size}

pub returns : goal.returns
returns c =
    rw c.size_behind.ensures
    (read_size c.args.sector c.args.line.now c.in_ok-word.word.now c.in_ok-word.words
    (rw c.of.ensures at c.in_ok-word.ensures))
