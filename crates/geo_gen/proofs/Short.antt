-- What is made is a script, and is short.
use Rattle.std.proofs.Common.{◌≡◌, ℕ, zero, suc, ◌+◌, ◌*◌, ◌^◌, ◌%◌, ◌<◌, ◌≤◌, List, ◌++◌, length, codes, decimal, refl, ap, arith}
use Rattle.std.specs.Fmt.{digits}
use Rattle.std.specs.Prelude.{IsOk}
use Rattle.std.proofs.lemmas.Fmt.{length-decimal-le}
use Rattle.std.proofs.lemmas.List.{length-append}
use Rattle.geo_base.specs.declared.limits.TheConstants.{MAX_DRAWN_LINES, MAX_START}
use Rattle.geo_model.specs.Generator.{generated, draws, drawn_lines, command_text, next_draw, draw_value, line}
use Rattle.geo_model.specs.Report.{end_line}
use Rattle.geo_model.specs.Script.{script}
use Rattle.geo_laws_texts.proofs.CommandTexts.{drawn_command}
use Rattle.geo_laws_texts.proofs.Texts.{generated_plans}
use Rattle.geo_gen.specs.Lines.{header_text, third_draw}
use Rattle.geo_gen.proofs.Drawn.{whole}

-- a line of some word, a blank and a text
line_short : (word text : List ℕ) (a b : ℕ) → length word ≤ a → length text ≤ b
    → length (line (word ++ codes " " ++ text)) ≤ a + b + 2
line_short word text a b first second =
    let all = length-append (word ++ codes " " ++ text) end_line in
    let front = length-append (word ++ codes " ") text in
    let blank = length-append word (codes " ") in
    omega (arith, all, front, blank, first, second)

actor_short : (i : ℕ) → length (codes "a" ++ decimal (i % 4)) ≤ 2
actor_short i =
    let few : length (decimal (i % 4)) ≤ 1 = length-decimal-le 1 (i % 4) (omega arith) (omega arith) (omega arith) in
    omega (arith, length-append (codes "a") (decimal (i % 4)), few)

-- one line that is drawn, and those that follow
drawn_short : (i d1 d2 d3 : ℕ) (rest : List ℕ) (n : ℕ) → length rest ≤ n
    → length (line (codes "a" ++ decimal (i % 4) ++ codes " " ++ command_text d1 d2 d3) ++ rest) ≤ n + 204
drawn_short i d1 d2 d3 rest n others =
    let text = command_text d1 d2 d3 in
    let command = drawn_command d1 d2 d3 in
    let own = line_short (codes "a" ++ decimal (i % 4)) text 2 200 (actor_short i) command.short in
    omega (arith, length-append (line (codes "a" ++ decimal (i % 4) ++ codes " " ++ text)) rest, own, others)

lines_short : (n i x : ℕ) → length (drawn_lines i (draws (3 * n) x)) ≤ 204 * n
lines_short zero i x = omega arith
lines_short (suc n) i x =
    let three : 3 * suc n ≡ suc (suc (suc (3 * n))) = omega arith in
    let others = lines_short n (i + 1) (third_draw x) in
    let second : ℕ = next_draw (next_draw x) in
    let own = drawn_short i (draw_value (next_draw x)) (draw_value second) (draw_value (third_draw x))
    (drawn_lines (i + 1) (draws (3 * n) (third_draw x))) (204 * n) others in
    let same = ap (λ m. length (drawn_lines i (draws m x))) three in
    omega (arith, own, same)

header_long : length header_text ≡ 257
unfolding header_text digits
header_long = refl

-- the script has fewer than 2 ^ 32 bytes
pub generated_short : (start count : ℕ) → count ≤ MAX_DRAWN_LINES → length (generated start count) < 2 ^ 32
generated_short start count few =
    let lines = drawn_lines 0 (draws (3 * count) start) in
    let both = length-append header_text lines in
    let same = ap (λ t. length t) (whole start count) in
    omega (arith, both, same, header_long, lines_short count 0 start)

-- it is a script
pub generated_accepted : (start count : ℕ) → start ≤ MAX_START → count ≤ MAX_DRAWN_LINES
    → IsOk (script (generated start count))
generated_accepted start count below few =
    let made = generated_plans.scripts start count (below, few) in rw made.1 refl
