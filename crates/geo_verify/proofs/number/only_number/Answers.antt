use Rattle.std.proofs.Common.{◌≡◌, length, arith}
use Rattle.std.proofs.lemmas.Bool.Decides.{nat_tests}
use Rattle.geo_verify.proofs.NumbersRead.{only_word}
use Rattle.geo_verify.proofs.number.only_number.Goals as goal

-- the number is the only word, since nothing is left behind it
pub returns-then-is_empty : goal.returns-then-is_empty
returns-then-is_empty c =
    let read = c.in_ok-number.ensures in
    let none : length c.in_ok-number.rest.now ≡ 0 = grind (arith, nat_tests, c.is_empty.ensures, c.if-is_empty.true) in
    only_word c.args.text.now read.0 c.in_ok-number.rest.now c.in_ok-number.number read.1.0 read.1.1 none
