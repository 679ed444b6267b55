-- The lines that are drawn, one by one.
use Rattle.std.proofs.Common.{◌≡◌, ℕ, zero, suc, ◌+◌, ◌-◌, ◌*◌, ◌%◌, ◌<◌, List, ◌++◌, refl, sym, ap, ◌∙◌, arith, codes, decimal}
use Rattle.std.specs.Fmt.{digits}
use Rattle.std.proofs.lemmas.List.{append_assoc}
use Rattle.geo_model.specs.Generator.{generated, draws, drawn_lines, command_text, next_draw, draw_value, line}
use Rattle.geo_gen.specs.Lines.{header_text, next_text, drawn_text, third_draw, chosen_text, open_text, close_text, read_text, write_text, delete_text, flush_text, target_text, range_text, fill_text}

-- the command by the first draw is the choice
chosen_is : (k d2 d3 : ℕ) → k < 8 → (d1 : ℕ) → d1 % 8 ≡ k → command_text d1 d2 d3 ≡ chosen_text k d2 d3
unfolding chosen_text open_text close_text read_text write_text delete_text flush_text target_text range_text fill_text
chosen_is zero d2 d3 below d1 is = rw is (simp append_assoc)
chosen_is (suc zero) d2 d3 below d1 is = rw is (simp append_assoc)
chosen_is (suc (suc zero)) d2 d3 below d1 is = rw is refl
chosen_is (suc (suc (suc zero))) d2 d3 below d1 is = rw is (simp append_assoc)
chosen_is (suc (suc (suc (suc zero)))) d2 d3 below d1 is = rw is (simp append_assoc)
chosen_is (suc (suc (suc (suc (suc zero))))) d2 d3 below d1 is = rw is (simp append_assoc)
chosen_is (suc (suc (suc (suc (suc (suc zero)))))) d2 d3 below d1 is = rw is (simp append_assoc)
chosen_is (suc (suc (suc (suc (suc (suc (suc zero))))))) d2 d3 below d1 is = rw is refl
chosen_is (suc (suc (suc (suc (suc (suc (suc (suc k)))))))) d2 d3 below d1 is = absurd (omega (arith, below))

-- the first of the lines that are left
pub first_line : (i n x : ℕ) → drawn_lines i (draws (3 * (n + 1)) x)
    ≡ next_text i x ++ drawn_lines (i + 1) (draws (3 * n) (third_draw x))
unfolding next_text drawn_text
first_line i n x =
    let d1 : ℕ = draw_value (next_draw x) in
    let d2 : ℕ = draw_value (next_draw (next_draw x)) in
    let d3 : ℕ = draw_value (third_draw x) in
    let three : 3 * (n + 1) ≡ suc (suc (suc (3 * n))) = omega arith in
    let chosen : command_text d1 d2 d3 ≡ chosen_text (d1 % 8) d2 d3 =
    chosen_is (d1 % 8) d2 d3 (omega arith) d1 refl in
    ap (λ m. drawn_lines i (draws m x)) three
    ∙ ap (λ t. line (codes "a" ++ decimal (i % 4) ++ codes " " ++ t)
    ++ drawn_lines (i + 1) (draws (3 * n) (third_draw x))) chosen

-- a line more is written
pub next_line : (whole text more : List ℕ) (count i x last : ℕ) → i < count → more ≡ text ++ next_text i x
    → last ≡ third_draw x → whole ≡ text ++ drawn_lines i (draws (3 * (count - i)) x)
    → whole ≡ more ++ drawn_lines (i + 1) (draws (3 * (count - (i + 1))) last)
next_line whole text more count i x last below written drawn so_far =
    let n : ℕ = count - (i + 1) in
    let left : count - i ≡ n + 1 = omega arith in
    let rest : List ℕ = drawn_lines (i + 1) (draws (3 * n) (third_draw x)) in
    so_far
    ∙ ap (λ k. text ++ drawn_lines i (draws (3 * k) x)) left
    ∙ ap (λ l. text ++ l) (first_line i n x)
    ∙ sym (append_assoc text (next_text i x) rest)
    ∙ ap (λ l. l ++ rest) (sym written)
    ∙ ap (λ y. more ++ drawn_lines (i + 1) (draws (3 * n) y)) (sym drawn)

pub whole : (start count : ℕ) → header_text ++ drawn_lines 0 (draws (3 * count) start) ≡ generated start count
unfolding generated header_text
whole start count = refl

-- what stands before the lines that are drawn
pub header_is : codes "ram md0 512 1024\nram md1 512 1024\nram md2 512 1024\nram md3 512 1024\n"
    ++ codes "actor a0\nactor a1\nactor a2\nactor a3\na0 stripe s 4096 md0 md1\na0 concat c md2 md3\n"
    ++ codes "a0 open h0 stripe/s r1w1e0\na1 open h0 concat/c r1w1e0\n"
    ++ codes "a2 open h0 stripe/s r1w0e0\na3 open h0 concat/c r1w0e0\n"
    ≡ header_text
unfolding header_text digits
header_is = refl
