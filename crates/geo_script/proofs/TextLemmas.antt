-- The lines of a text, from the first on.
use Rattle.std.proofs.Common.{◌≡◌, ℕ, ◌+◌, ◌-◌, ◌≤◌, ◌==◌, List, [], ◌∷◌, length, take, drop, Some, None, Result, Ok, Err, refl, sym, ◌∙◌, ap, arith, fold, position}
use Rattle.std.specs.List.{slice_split, enumerate_from}
use Rattle.std.proofs.Math.ListN.{drop_of_length-le}
use Rattle.std.proofs.lemmas.List.{take_all}
use Rattle.geo_model.specs.Script.{Fault, lines_of, drop_empty_end, next_line, empty_plan, script}
use Rattle.geo_model.specs.World.{Plan}
use Rattle.geo_script.specs.Draft.{LinesLeave, Parses}
use Rattle.geo_script.specs.declared.refusal.ParseRefusal.{ParseRefusal}
use Rattle.geo_script.specs.declared.refusal.ParseRefusal.TheVariants as refusals
use Rattle.geo_script.proofs.WordsLemmas.{split_at, split_none, behind, parts-some}

-- a line before others stays, however empty
end_kept : (line : List ℕ) (parts : List (List ℕ)) → 1 ≤ length parts
    → drop_empty_end (line ∷ parts) ≡ line ∷ drop_empty_end parts
end_kept line [] h = absurd (omega arith)
end_kept [] (part ∷ parts) h = refl
end_kept (b ∷ bs) (part ∷ parts) h = refl

-- the first line ends at the first line feed
pub lines-at : (text : List ℕ) (at : ℕ) → position (λ b. b == 10) text ≡ Some at
    → lines_of text ≡ take at text ∷ lines_of (take (length text - (at + 1)) (drop (at + 1) text))
lines-at text at e =
    ap drop_empty_end (split_at 10 text at e)
    ∙ end_kept (take at text) (slice_split (λ b. b == 10) (drop (at + 1) text)) (parts-some 10 (drop (at + 1) text))
    ∙ ap (λ l. take at text ∷ lines_of l) (sym (behind at text))

-- nothing stands behind a text
nothing_behind : (text : List ℕ) → take (length text - length text) (drop (length text) text) ≡ []
nothing_behind text = ap (take (length text - length text)) (drop_of_length-le text (omega arith))
    ∙ take_all (length text - length text) [] (omega arith)

-- a text that isn't empty is a line
one_line : (text : List ℕ) → 1 ≤ length text → drop_empty_end (text ∷ []) ≡ text ∷ []
one_line [] h = absurd (omega arith)
one_line (b ∷ bs) h = refl

-- a text without a line feed is one line
pub lines-none : (text : List ℕ) → 1 ≤ length text → position (λ b. b == 10) text ≡ None
    → lines_of text ≡ text ∷ lines_of (take (length text - length text) (drop (length text) text))
lines-none text some e =
    ap drop_empty_end (split_none 10 text e) ∙ one_line text some
    ∙ ap (λ l. text ∷ lines_of l) (sym (nothing_behind text))

-- a fault stays
fault_stays : (fault : Fault) (items : List (ℕ × List ℕ)) → fold next_line (Err fault) items ≡ Err fault
fault_stays fault [] = refl
fault_stays fault (item ∷ items) = fault_stays fault items

-- the plan so far with the lines from a number on
abbrev pub rest_read : Plan → ℕ → List ℕ → Result Plan Fault
rest_read plan n rest = fold next_line (Ok plan) (enumerate_from (n + 1) (lines_of rest))

-- a line more is read
pub read_on : (plan more : Plan) (n : ℕ) (rest line behind : List ℕ) (all : Result Plan Fault) →
    lines_of rest ≡ line ∷ lines_of behind → next_line (Ok plan) (n + 1, line) ≡ Ok more
    → rest_read plan n rest ≡ all → rest_read more (n + 1) behind ≡ all
read_on plan more n rest line behind all lines next whole =
    ap (λ r. fold next_line r (enumerate_from (n + 1 + 1) (lines_of behind))) (sym next)
    ∙ sym (ap (λ ls. fold next_line (Ok plan) (enumerate_from (n + 1) ls)) lines) ∙ whole

-- a line has a fault
pub read_fault : (plan : Plan) (fault : Fault) (n : ℕ) (rest line behind : List ℕ) (all : Result Plan Fault) →
    lines_of rest ≡ line ∷ lines_of behind → next_line (Ok plan) (n + 1, line) ≡ Err fault
    → rest_read plan n rest ≡ all → all ≡ Err fault
read_fault plan fault n rest line behind all lines next whole =
    sym whole ∙ ap (λ ls. fold next_line (Ok plan) (enumerate_from (n + 1) ls)) lines
    ∙ ap (λ r. fold next_line r (enumerate_from (n + 1 + 1) (lines_of behind))) next
    ∙ fault_stays fault (enumerate_from (n + 1 + 1) (lines_of behind))

-- no line is read yet
pub read_none : (text : List ℕ) → rest_read empty_plan 0 text ≡ script text
unfolding script
read_none text = refl

-- no line is left
pub read_end : (plan : Plan) (n : ℕ) (rest : List ℕ) (all : Result Plan Fault) → length rest ≡ 0
    → rest_read plan n rest ≡ all → all ≡ Ok plan
read_end plan n [] all e whole = sym whole
read_end plan n (b ∷ bs) all e whole = absurd (omega arith)

-- a line isn't read
pub read_refused : (plan new : Plan) (refusal : ParseRefusal) (n : ℕ) (rest line behind : List ℕ)
    (all : Result Plan Fault) →
    lines_of rest ≡ line ∷ lines_of behind → LinesLeave (Err refusal) new (next_line (Ok plan) (n + 1, line))
    → rest_read plan n rest ≡ all → Parses (Err refusal) all
read_refused plan new (refusals.Fault m cause) n rest line behind all lines next whole =
    read_fault plan (record { line = m; cause = cause }) n rest line behind all lines next whole
read_refused plan new refusals.NoMemory n rest line behind all lines next whole = tt
