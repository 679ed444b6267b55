use Rattle.geo_verify.proofs.NumbersRead.{first_word}
use Rattle.geo_verify.proofs.number.first_number.Goals as goal

-- the number is the first word, and the others stand behind the space
pub returns : goal.returns
returns c =
    let read = c.in_ok-number.ensures in
    first_word c.args.text.now read.0 c.in_ok-number.rest.now c.in_ok-behind.behind.now c.in_ok-number.number
    read.1.0 read.1.1 c.in_ok-behind.ensures
