-- Numbers that words are written as.
use Rattle.std.proofs.Common.{◌≡◌, ◌<◌, ◌^◌, true, false, arith, sym, subst, ◌∙◌}
use Rattle.std.proofs.lemmas.Fmt.{decimal_injective}
use Rattle.geo_run.specs.Numbers.{IsPlain}
use Rattle.geo_run.proofs.Digits.{plain_decimal, read_plain, read_small, unread_plain}
use Rattle.geo_run.proofs.words.number_within.Goals as goal

-- a number in decimal has no plus and no zero in front
pub returns-then-not-is_plain : goal.returns-then-not-is_plain
returns-then-not-is_plain c = λ n le e.
    let limit : c.args.limit < 2 ^ 32 = c.ranges.limit.fits in
    let plain : IsPlain c.as_bytes.result.now =
    subst IsPlain (sym (c.as_bytes.ensures.value ∙ e)) (plain_decimal n (omega (arith, limit, le))) in
    let yes_plain : c.is_plain.result ≡ true = c.is_plain.ensures.1 plain in
    let bad : false ≡ true = sym c.if-not-is_plain.true ∙ yes_plain in cc

-- a plain word that is read as a number is that number in decimal
pub returns-then-number-limit : goal.returns-then-number-limit
returns-then-number-limit c =
    let plain : IsPlain c.args.word.now =
    subst IsPlain c.as_bytes.ensures.value (c.is_plain.ensures.0 c.if-not-is_plain.false) in
    (read_plain c.args.word.now c.in-Ok.number plain c.in-Ok.ensures.value.0, c.if-number-limit.true)

-- no two numbers are written alike, so a number within the limit isn't written so
pub returns-else-number-limit : goal.returns-else-number-limit
returns-else-number-limit c = λ n le e.
    let plain : IsPlain c.args.word.now =
    subst IsPlain c.as_bytes.ensures.value (c.is_plain.ensures.0 c.if-not-is_plain.false) in
    let limit : c.args.limit < 2 ^ 32 = c.ranges.limit.fits in
    let above : c.args.limit < c.in-Ok.number = c.if-number-limit.false in
    let read : c.in-Ok.number < 2 ^ 32 = read_small c.args.word.now c.in-Ok.number c.in-Ok.ensures.value.0 in
    let small : c.in-Ok.number < 2 ^ 64 = omega (arith, read) in
    let same : n ≡ c.in-Ok.number =
    decimal_injective n c.in-Ok.number (omega (arith, limit, le)) small
    (sym e ∙ read_plain c.args.word.now c.in-Ok.number plain c.in-Ok.ensures.value.0) in
    absurd (omega (arith, same, le, above))

-- each number within the limit is read, and this word isn't
pub returns-in-Err : goal.returns-in-Err
returns-in-Err c = λ n le e.
    let limit : c.args.limit < 2 ^ 32 = c.ranges.limit.fits in
    unread_plain c.args.word.now n (omega (arith, limit, le)) e c.in-Err.ensures.value.0
