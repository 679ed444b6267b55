-- The script that is made from a number.
use Rattle.std.specs.Prelude.{ℕ, zero, suc, ◌+◌, ◌*◌, ◌/◌, ◌%◌, ◌^◌, ◌≤◌, List, [], ◌∷◌, ◌++◌, flat_map, slice_get, unwrap_or, codes, decimal}
use Rattle.std.specs.List.{range_with_len}
use Rattle.geo_base.specs.Runs.{hex_digit}
use Rattle.geo_base.specs.declared.limits.TheConstants.{MAX_DRAWN_LINES, MAX_START}
use Rattle.geo_model.specs.Report.{end_line}

-- Draws

-- the number after this one
abbrev pub next_draw : ℕ → ℕ
next_draw x = (x * 1103515245 + 12345) % 2147483648

-- what a draw gives
abbrev pub draw_value : ℕ → ℕ
draw_value x = x / (2 ^ 16)

-- the first n draws after a number
abbrev pub draws : ℕ → ℕ → List ℕ
draws zero x = []
draws (suc n) x = draw_value (next_draw x) ∷ draws n (next_draw x)

-- Lines

-- a text and a line feed
abbrev pub line : List ℕ → List ℕ
line text = text ++ end_line

abbrev pub disk_lines : List ℕ
disk_lines = flat_map (λ k. line (codes "ram md" ++ decimal k ++ codes " 512 1024")) (range_with_len 0 4)

abbrev pub actor_lines : List ℕ
actor_lines = flat_map (λ k. line (codes "actor a" ++ decimal k)) (range_with_len 0 4)

abbrev pub first_lines : List ℕ
first_lines =
    line (codes "a0 stripe s 4096 md0 md1")
    ++ line (codes "a0 concat c md2 md3")
    ++ line (codes "a0 open h0 stripe/s r1w1e0")
    ++ line (codes "a1 open h0 concat/c r1w1e0")
    ++ line (codes "a2 open h0 stripe/s r1w0e0")
    ++ line (codes "a3 open h0 concat/c r1w0e0")

-- the entry at a place of a list of texts
abbrev pub entry_at : List (List ℕ) → ℕ → List ℕ
entry_at texts k = unwrap_or (slice_get texts k) []

abbrev pub open_provider : ℕ → List ℕ
open_provider k =
    entry_at (codes "md0" ∷ codes "md1" ∷ codes "md2" ∷ codes "md3" ∷ codes "stripe/s" ∷ codes "concat/c" ∷ []) k

abbrev pub open_counts : ℕ → List ℕ
open_counts k = entry_at (codes "r1w0e0" ∷ codes "r0w1e0" ∷ codes "r1w1e0" ∷ codes "r1w0e1" ∷ codes "r1w1e1" ∷ []) k

-- what the words of a line are, from its three draws
abbrev pub handle_text : ℕ → List ℕ
handle_text d2 = codes "h" ++ decimal (d2 % 2)

abbrev pub offset_text : ℕ → List ℕ
offset_text d3 = decimal (512 * (d3 % 1024))

abbrev pub len_text : ℕ → List ℕ
len_text d2 = decimal (512 * (1 + (d2 / 2) % 8))

abbrev pub byte_text : ℕ → List ℕ
byte_text n = hex_digit (n / 16) ∷ hex_digit (n % 16) ∷ []

-- the command by the first draw
abbrev pub command_text : ℕ → ℕ → ℕ → List ℕ
command_text d1 d2 d3 =
    entry_at
    ((codes "open " ++ handle_text d2 ++ codes " " ++ open_provider ((d2 / 2) % 6) ++ codes " " ++ open_counts (d3 % 5))
    ∷ (codes "open " ++ handle_text d2 ++ codes " " ++ open_provider ((d2 / 2) % 6) ++ codes " "
    ++ open_counts (d3 % 5))
    ∷ (codes "close " ++ handle_text d2)
    ∷ (codes "read " ++ handle_text d2 ++ codes " " ++ offset_text d3 ++ codes " " ++ len_text d2)
    ∷ (codes "read " ++ handle_text d2 ++ codes " " ++ offset_text d3 ++ codes " " ++ len_text d2)
    ∷ (codes "write " ++ handle_text d2 ++ codes " " ++ offset_text d3 ++ codes " " ++ byte_text (d3 % 256)
    ++ codes "*" ++ len_text d2)
    ∷ (codes "delete " ++ handle_text d2 ++ codes " " ++ offset_text d3 ++ codes " " ++ len_text d2)
    ∷ (codes "flush " ++ handle_text d2)
    ∷ [])
    (d1 % 8)

-- lines from the one of number i on, by three draws each
abbrev pub drawn_lines : ℕ → List ℕ → List ℕ
drawn_lines i (d1 ∷ d2 ∷ d3 ∷ rest) = line (codes "a" ++ decimal (i % 4) ++ codes " " ++ command_text d1 d2 d3)
    ++ drawn_lines (i + 1) rest
drawn_lines i _ = []

-- the script from a number, with so many lines that are drawn
unfoldable pub generated : ℕ → ℕ → List ℕ
generated start count = disk_lines ++ actor_lines ++ first_lines ++ drawn_lines 0 (draws (3 * count) start)

-- the numbers from which a script is made: a start below 2^31, and at most 4,000 lines that are drawn
abbrev pub CanBeGenerated : ℕ → ℕ → Type 0
CanBeGenerated start count = (start ≤ MAX_START) × (count ≤ MAX_DRAWN_LINES)
