use Rattle.std.proofs.Common.{◌≡◌, ℕ, ◌-◌, Bool, true, false, List, length, take, drop, sym, ap, ◌∙◌, arith, length-drop}
use Rattle.std.proofs.lemmas.List.{take_all}
use Rattle.std.specs.Prelude.{◌==◌}
use Rattle.std.specs.List.{list_all}
use Rattle.geo_class.proofs.HeadLemmas.{padded_name-rest, padded_name-some, padded_name-no_name}
use Rattle.geo_class.proofs.head.padded_name.Goals as goal

-- a test of the slice from a place on is a test of all that is left there
test_of_rest : (field : List ℕ) (len : ℕ) (tested answer : Bool)
    → tested ≡ list_all (λ b. b == 0) (take (length field - len) (drop len field))
    → tested ≡ answer → list_all (λ b. b == 0) (drop len field) ≡ answer
test_of_rest field len tested answer by_slice is =
    sym (ap (list_all (λ b. b == 0))
    (take_all (length field - len) (drop len field) (omega (arith, length-drop len field))))
    ∙ sym by_slice ∙ is

-- a byte other than zero stands behind the first zero
pub returns-then-not-are_zero : goal.returns-then-not-are_zero
returns-then-not-are_zero c =
    sym (padded_name-rest c.args.field.now c.len_before_zero-len.result c.requires c.len_before_zero-len.ensures.len
    (test_of_rest c.args.field.now c.len_before_zero-len.result c.are_zero.result false c.are_zero.ensures
    c.if-not-are_zero.true))

-- the bytes before the first zero are a short name, and zeros alone follow
pub returns-then-is_short : goal.returns-then-is_short
returns-then-is_short c =
    sym (padded_name-some c.args.field.now c.len_before_zero-len.result c.requires c.len_before_zero-len.ensures.len
    c.in-Ok.name c.in-Ok.ensures
    (sym c.is_short.ensures ∙ c.if-is_short.true)
    (test_of_rest c.args.field.now c.len_before_zero-len.result c.are_zero.result true c.are_zero.ensures
    c.if-not-are_zero.false))

-- the bytes before the first zero aren't a name at all
pub returns-in-Err : goal.returns-in-Err
returns-in-Err c =
    sym (padded_name-no_name c.args.field.now c.len_before_zero-len.result c.requires
    c.len_before_zero-len.ensures.len c.in-Err.ensures)
