-- The parts of the script in the order in which they are written.
use Rattle.std.specs.Prelude.{ℕ, ◌/◌, ◌%◌, ◌==◌, nat_lt, List, ◌++◌, codes, decimal, if◌then◌else◌}
use Rattle.geo_model.specs.Generator.{disk_lines, actor_lines, first_lines, next_draw, handle_text, offset_text, len_text, byte_text, open_provider, open_counts, line, draw_value}

-- what stands before the lines that are drawn
unfoldable pub header_text : List ℕ
header_text = disk_lines ++ actor_lines ++ first_lines

-- what is opened, and how
unfoldable pub target_text : ℕ → ℕ → List ℕ
target_text d2 d3 = codes " " ++ open_provider ((d2 / 2) % 6) ++ codes " " ++ open_counts (d3 % 5)

-- a handle, an offset and a length
unfoldable pub range_text : ℕ → ℕ → List ℕ
range_text d2 d3 = handle_text d2 ++ codes " " ++ offset_text d3 ++ codes " " ++ len_text d2

-- an offset, and a byte with how many times it is written
unfoldable pub fill_text : ℕ → ℕ → List ℕ
fill_text d2 d3 = codes " " ++ offset_text d3 ++ codes " " ++ byte_text (d3 % 256) ++ codes "*" ++ len_text d2

unfoldable pub open_text : ℕ → ℕ → List ℕ
open_text d2 d3 = codes "open " ++ handle_text d2 ++ target_text d2 d3

unfoldable pub close_text : ℕ → List ℕ
close_text d2 = codes "close " ++ handle_text d2

unfoldable pub read_text : ℕ → ℕ → List ℕ
read_text d2 d3 = codes "read " ++ range_text d2 d3

unfoldable pub write_text : ℕ → ℕ → List ℕ
write_text d2 d3 = codes "write " ++ handle_text d2 ++ fill_text d2 d3

unfoldable pub delete_text : ℕ → ℕ → List ℕ
delete_text d2 d3 = codes "delete " ++ range_text d2 d3

unfoldable pub flush_text : ℕ → List ℕ
flush_text d2 = codes "flush " ++ handle_text d2

-- the command of a choice below 8
unfoldable pub chosen_text : ℕ → ℕ → ℕ → List ℕ
chosen_text choice d2 d3 =
    if nat_lt choice 2
    then open_text d2 d3
    else if choice == 2
    then close_text d2
    else if nat_lt choice 5
    then read_text d2 d3
    else if choice == 5
    then write_text d2 d3
    else if choice == 6
    then delete_text d2 d3
    else flush_text d2

-- a line of the actor whose turn it is
unfoldable pub drawn_text : ℕ → ℕ → ℕ → ℕ → List ℕ
drawn_text i d1 d2 d3 = line (codes "a" ++ decimal (i % 4) ++ codes " " ++ chosen_text (d1 % 8) d2 d3)

-- the number after the three that are drawn for a line
abbrev pub third_draw : ℕ → ℕ
third_draw x = next_draw (next_draw (next_draw x))

-- the line of the three draws after a number
unfoldable pub next_text : ℕ → ℕ → List ℕ
next_text i x =
    drawn_text i (draw_value (next_draw x)) (draw_value (next_draw (next_draw x))) (draw_value (third_draw x))
