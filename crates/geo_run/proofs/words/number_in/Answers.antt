-- The bytes of the word.
use Rattle.std.proofs.Common.{List, ℕ, subst}
use Rattle.geo_run.specs.Numbers.{IsNumberWithin}
use Rattle.geo_run.proofs.words.number_in.Goals as goal

pub returns : goal.returns
returns c =
    subst (λ (w : List ℕ). IsNumberWithin c.args.limit w c.number_within.result) c.as_str.ensures.value
    c.number_within.ensures
